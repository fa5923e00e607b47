-- What is answered has a text, which is what may be answered.
use Rattle.std.proofs.Common.{◌≡◌, ℕ, zero, suc, ◌+◌, ◌<◌, Bool, true, false, List, [], ◌∷◌, length, Option, Some, None, refl, ap, subst, ◌∙◌, arith, All, slice_get, slice_index, remove}
use Rattle.std.specs.Option.{option_map_or}
use Rattle.std.proofs.lemmas.List.Elements.{All-cons, All-from_get_or, All-nil}
use Rattle.rf_log.specs.Case.{IsPlan, is_among}
use Rattle.rf_log.specs.declared.line.LogLine.{LogLine}
use Rattle.rf_show.specs.Case.{CaseIsAsked, case_of}
use Rattle.rf_show.specs.Show.{ShowData}
use Rattle.rf_show.specs.declared.carrier.Carrier.{Carrier}
use Rattle.rf_solving.specs.Solving.{IsWritten}
use Rattle.rf_tighter.specs.Locked.{AllLocksAreKept, MoreLocksAreTighter, locked_to}
use Rattle.rf_tighter.specs.Tighter.{IsTighter}
use Rattle.rf_decide.specs.Texts.{IsIndexed, PlanIsIndexed}
use Rattle.rf_core.specs.Answers.{AreCarriers, AreWritten, CanBeWritten, IsBlocked, IsDroppedWritten, text_of}
use Rattle.rf_core.specs.Blocking.{AreLocks, Blocking, IsDropped, blocked, not_blocked, spent_reply, used_up}
use Rattle.rf_core.specs.declared.answer.Blocked.{Blocked}
use Rattle.rf_core.specs.declared.answer.Blocked.TheVariants.{Plan, Locks, Spent}
use Rattle.rf_tighter.proofs.LockedLaws.{length-locked}

pub may-be-answered : (show : ShowData) (n : ℕ) (answer : Blocked) (text : List ℕ) → IsBlocked show n answer → text ≡ text_of show answer → Blocking show n text
may-be-answered show n (Plan plan) text is e = not_blocked plan is e
may-be-answered show n (Locks keep plans log) text is e = blocked keep plans log is e
may-be-answered show n (Spent keep log dropped) text is e =
    used_up keep log dropped is (e ∙ ap (λ m. spent_reply show keep log dropped m) is.used_up.solved.ends.all)

-- ---- carriers

there : (cs : List Carrier) (c : ℕ) → option_map_or (λ (x : Carrier). x.locked) (slice_get cs c) false ≡ true → c < length cs
there [] zero h = cc
there [] (suc c) h = cc
there (x ∷ xs) zero h = omega arith
there (x ∷ xs) (suc c) h = omega (arith, there xs c h)

are-there : (show : ShowData) (from : ℕ) (set : List ℕ) → AreLocks show from set → AreCarriers show set
are-there show from [] h = All-nil (λ c. c < length show.carriers)
are-there show from (c ∷ cs) h = All-cons (λ d. d < length show.carriers) c cs (there show.carriers c h.1) (are-there show (c + 1) cs h.2)

-- ---- lines

lines-of : (show : ShowData) (keep : ℕ → Bool) (log : List LogLine) → All (IsWritten (length (locked_to show keep).carriers)) log → AreWritten show log
lines-of show keep log h = subst (λ n. All (IsWritten n) log) (length-locked 0 keep show.carriers) h

-- ---- plans

-- a plan of the show with fewer locks has the index of a channel of the show for each carrier
indexed : CaseIsAsked → PlanIsIndexed → AllLocksAreKept → MoreLocksAreTighter → (show : ShowData) (keep : ℕ → Bool) (plan : List ℕ)
    → IsPlan (case_of (locked_to show keep)) plan → IsIndexed show plan
indexed asked index all tighter show keep plan is =
    let some : IsTighter (case_of (locked_to show keep)) (case_of show) =
    subst (λ s. IsTighter (case_of (locked_to show keep)) (case_of s)) (all show (λ c. true) (λ c x e locked. refl)) (tighter show keep (λ c. true) (λ c h. refl)) in
    let own = asked show in
    record {
      full = is.full ∙ some.carriers ∙ own.carriers;
      known = λ c low.
          let in_case : c < length (case_of show).carriers = omega (arith, low, own.carriers) in
          subst (λ (fs : List ℕ). slice_index plan c < length fs) (some.freqs c in_case ∙ own.freqs c low)
          (is.known c (omega (arith, in_case, is.full, some.carriers)));
    }

can-drop : (show : ShowData) (n : ℕ) (keep : List ℕ) (dropped : Option (ℕ × List LogLine)) → IsDropped show n keep dropped → IsDroppedWritten show dropped
can-drop show n keep None h = tt
can-drop show n keep (Some dropped) h = (there show.carriers dropped.0 h.0, lines-of show (is_among (dropped.0 ∷ keep)) dropped.1 h.2.written)

pub can-be-written : CaseIsAsked → PlanIsIndexed → AllLocksAreKept → MoreLocksAreTighter → (show : ShowData) (n : ℕ) (answer : Blocked) → IsBlocked show n answer → CanBeWritten show answer
can-be-written asked index all tighter show n (Plan plan) is = index show plan is
can-be-written asked index all tighter show n (Locks keep plans log) is = (
  are-there show 0 keep is.locks,
  All-from_get_or (IsIndexed show) plans [] (λ i low. indexed asked index all tighter show (is_among (remove keep i)) _ (is.without i (omega (arith, low, is.each)))),
  is.each,
  lines-of show (is_among keep) log is.refutation.written,
)
can-be-written asked index all tighter show n (Spent keep log dropped) is =
    (are-there show 0 keep is.locks, can-drop show n keep dropped is.last, lines-of show (is_among keep) log is.used_up.written)
