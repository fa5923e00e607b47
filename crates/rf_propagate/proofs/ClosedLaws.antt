-- What is quiet for every kind lies within the closure.
use Rattle.std.proofs.Common.{ℕ, List, Bool, ap, sym, ◌∙◌, IsTrue}
use Rattle.rf_terms.specs.declared.kind.Kind.{Kind}
use Rattle.rf_log.specs.declared.cond.Cond.{Cond}
use Rattle.rf_log.specs.Case.{Case, is_allowed}
use Rattle.rf_log.specs.Relations.{Meets, IsSettled, IsWithin}
use Rattle.rf_log.specs.Hints.{Line}
use Rattle.rf_log.specs.Closure.{Closure}
use Rattle.rf_terms.specs.Kinds.{kinds}
use Rattle.rf_log.proofs.ClosureLaws.{within-round}
use Rattle.rf_trail.specs.Trace.{Trace, has_of, box_of}
use Rattle.rf_propagate.specs.Laws.{IsQuiet, HasEveryKind, IsOnPath, IsClosed}
use Rattle.rf_propagate.proofs.BothLaws.{Kept, left_before}

settled_every : (case : Case) (ks : List Kind) (b : ℕ → ℕ → Type 0) → HasEveryKind ks → IsSettled case ks b → IsSettled case kinds b
settled_every case ks b every settled c k here struck = settled c k here (record {
  kind = struck.kind;
  among = every.each struck.kind;
  roles = struck.roles;
  at = struck.at;
  is_instance = struck.is_instance;
  target = struck.target;
  here = struck.here;
  others = struck.others;
  breaks = struck.breaks;
})

pub closed_by : {case : Case} {lines : List Line} (path : List Cond) (ks : List Kind) (bans : Bool) (before now : Trace)
    → Kept case lines before now → IsQuiet case ks bans (box_of now) → HasEveryKind ks → IsTrue bans → IsOnPath case path (box_of before)
    → IsClosed case path (box_of now)
closed_by {case} path ks bans before now kept quiet every asked on =
    let was_left : IsWithin (box_of now) (box_of before) = λ c k here.
    left_before before.counts kept.sound c k (sym (ap (λ n. has_of n now.entries c k) kept.counts) ∙ here) in
    let start : (c k : ℕ) → box_of now c k → Meets case path c k × IsTrue (is_allowed case c k) =
    λ c k here. (on.each c k (was_left c k here), quiet.allowed asked c k here) in
    let within : IsWithin (box_of now) (Closure case path) = λ c k here n.
    within-round case path (box_of now) quiet.living (settled_every case ks (box_of now) every quiet.settled) start n c k here in
    record { within = within; living = λ c known. let some = quiet.living c known in (some.0, within c some.0 some.1) }
