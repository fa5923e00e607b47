-- What a line takes out has a reason, and leaves it blocked.
use Rattle.std.proofs.Common.{◌≡◌, ℕ, zero, suc, ◌+◌, ◌-◌, ◌<◌, ◌≤◌, List, [], ◌∷◌, true, false, not, length, refl, sym, ◌∙◌, ap, subst, arith}
use Rattle.std.specs.Prelude.{Result, Ok, Err, OnOk, OnErr, Some, slice_index_or}
use Rattle.std.proofs.lemmas.List.{length-map}
use Rattle.std.proofs.lemmas.Bool.{true≢false}
use Rattle.rf_log.specs.declared.cond.Cond.{Cond}
use Rattle.rf_log.specs.declared.hint.Hint.TheVariants.{Earlier}
use Rattle.rf_log.specs.Box.{Box, between, is_met, without, nothing}
use Rattle.rf_log.specs.Case.{Case, counts_of}
use Rattle.rf_log.specs.Hints.{Line, line_at, by_open, by_line}
use Rattle.rf_log.specs.Relations.{members, HasNone}
use Rattle.rf_domain.specs.Sets as sets
use Rattle.rf_domain.specs.Sets.{size_of}
use Rattle.rf_trail.specs.declared.entry.Entry.{Entry}
use Rattle.rf_trail.specs.Trace.{Trace, has_of, box_of}
use Rattle.rf_trail.proofs.TraceLaws.{has_size}
use Rattle.rf_propagate.specs.Laws.{Extends, same, more, IsJustified, two, one}
use Rattle.rf_propagate.specs.Openings.{Holds, IsUnmet, HoldFrom, IsNextOpen, IsOneOpen}
use Rattle.rf_nogoods.specs.Removals.{IsPart, IsTaken, IsDone, entry_by}
use Rattle.rf_propagate.proofs.LineLaws.{size_is, none_open, one_open, without_gone}
use Rattle.rf_propagate.proofs.OpeningLaws.{same_at, inside_is, outside_is, below_is, ends_of}
use Rattle.rf_domain.proofs.RangeLaws.{past_range, in_range}

-- ---- the reasons

pub unit_reason : (case : Case) (lines : List Line) (es : List Entry) (number : ℕ) (conds : List Cond) (place : ℕ) (cond : Cond) (lo hi : ℕ)
    → line_at lines number ≡ Some conds → IsOneOpen (has_of (counts_of case) es) conds place cond
    → ((k : ℕ) → between lo hi k ≡ true → is_met cond k ≡ true) → lo ≤ hi → hi < size_of (counts_of case) cond.carrier
    → IsJustified case lines es (entry_by number cond.carrier lo hi)
unit_reason case lines es number conds place cond lo hi found open_ met ordered low =
    let b = has_of (counts_of case) es in record {
      hint = Earlier number;
      is = refl;
      after = without b cond.carrier (is_met cond);
      works = ap (by_line case b) found ∙ ap (by_open b) (one_open case b conds place cond open_
          (λ k here. subst (λ (n : ℕ). k < n) (size_is case cond.carrier) (has_size (counts_of case) es cond.carrier k here)));
      gone = λ k inside. without_gone b cond.carrier (is_met cond) k (met k inside);
      own = tt;
      ordered = ordered;
      in_range = low;
    }

-- the same over a trail with the case's counts
pub unit_step : (case : Case) (lines : List Line) (t : Trace) (number : ℕ) (conds : List Cond) (place : ℕ) (cond : Cond) (lo hi : ℕ)
    → t.counts ≡ counts_of case → line_at lines number ≡ Some conds → IsOneOpen (has_of t.counts t.entries) conds place cond
    → ((k : ℕ) → between lo hi k ≡ true → is_met cond k ≡ true) → lo ≤ hi → hi < size_of t.counts cond.carrier
    → IsJustified case lines t.entries (entry_by number cond.carrier lo hi)
unit_step case lines t number conds place cond lo hi counts found open_ met ordered low =
    unit_reason case lines t.entries number conds place cond lo hi found
    (subst (λ (ns : List ℕ). IsOneOpen (has_of ns t.entries) conds place cond) counts open_) met ordered
    (subst (λ (ns : List ℕ). hi < size_of ns cond.carrier) counts low)

pub wipe_reason : (case : Case) (lines : List Line) (es : List Entry) (number : ℕ) (conds : List Cond) (c lo hi : ℕ)
    → line_at lines number ≡ Some conds → HoldFrom (has_of (counts_of case) es) conds 0 → lo ≤ hi → hi < size_of (counts_of case) c
    → IsJustified case lines es (entry_by number c lo hi)
wipe_reason case lines es number conds c lo hi found held ordered low =
    let b = has_of (counts_of case) es in record {
      hint = Earlier number;
      is = refl;
      after = nothing;
      works = ap (by_line case b) found ∙ ap (by_open b) (none_open case b conds held);
      gone = λ k inside. refl;
      own = tt;
      ordered = ordered;
      in_range = low;
    }

pub wipe_step : (case : Case) (lines : List Line) (t : Trace) (number : ℕ) (conds : List Cond) (c lo hi : ℕ)
    → t.counts ≡ counts_of case → line_at lines number ≡ Some conds → HoldFrom (has_of t.counts t.entries) conds 0 → lo ≤ hi → hi < size_of t.counts c
    → IsJustified case lines t.entries (entry_by number c lo hi)
wipe_step case lines t number conds c lo hi counts found held ordered low =
    wipe_reason case lines t.entries number conds c lo hi found
    (subst (λ (ns : List ℕ). HoldFrom (has_of ns t.entries) conds 0) counts held) ordered
    (subst (λ (ns : List ℕ). hi < size_of ns c) counts low)

-- after a removal with a reason that may want memory
pub extends_by : {A E : Type 0} (old new : Trace) (e : Entry) (r : Result A E)
    → OnOk r (new ≡ record old { entries = e ∷ old.entries }) → OnErr r (new ≡ old)
    → (case : Case) (lines : List Line) → IsJustified case lines old.entries e → Extends case lines old.entries new.entries
extends_by old new e (Ok x) is none case lines why =
    subst (λ (es : List Entry). Extends case lines old.entries es) (sym (ap (λ t. t.entries) is)) (more same why)
extends_by old new e (Err x) none is case lines why =
    subst (λ (es : List Entry). Extends case lines old.entries es) (sym (ap (λ t. t.entries) is)) same

pub carrier_in : (counts : List ℕ) (c k : ℕ) → k < size_of counts c → c < length counts
carrier_in [] c k low = absurd (omega arith)
carrier_in (n ∷ ns) zero k low = omega arith
carrier_in (n ∷ ns) (suc c) k low = omega (arith, carrier_in ns c k low)

-- ---- what is left

pub struck_gone : (b new : Box) (c lo hi : ℕ) → new ≡ sets.without b c (between lo hi) → (k : ℕ) → lo ≤ k → k ≤ hi → new c k ≡ false
struck_gone b new c lo hi is k from to = ap (λ (f : Box). f c k) is ∙ without_gone b c (between lo hi) k (in_range lo hi k from to)

-- the ranges that a condition asks
pub met_below : (cond : Cond) → cond.inside ≡ false → (k : ℕ) → between 0 (cond.lo - 1) k ≡ true → (cond.lo ≡ 0 → ⊥) → is_met cond k ≡ true
met_below cond out k within some = outside_is cond k out ∙ ap not (below_is cond.lo cond.hi k (let ends = ends_of 0 (cond.lo - 1) k within in omega (arith, ends.1, some)))

pub met_above : (cond : Cond) (last : ℕ) → cond.inside ≡ false → (k : ℕ) → between (cond.hi + 1) last k ≡ true → is_met cond k ≡ true
met_above cond last out k within = outside_is cond k out ∙ ap not (past_range cond.lo cond.hi k (let ends = ends_of (cond.hi + 1) last k within in omega (arith, ends.0)))

pub met_inside : (cond : Cond) → cond.inside ≡ true → (k : ℕ) → between cond.lo cond.hi k ≡ true → is_met cond k ≡ true
met_inside cond in_ k within = inside_is cond k in_ ∙ within

-- a further removal of indices that meet the condition
pub one_kept : (old new : Box) (conds : List Cond) (place : ℕ) (cond : Cond) → IsOneOpen old conds place cond
    → IsPart old new cond → IsOneOpen new conds place cond
one_kept old new conds place cond open_ part = record {
  known = open_.known;
  is = open_.is;
  fails = (open_.fails.0, record { here = part.stays open_.fails.0 open_.fails.1.here open_.fails.1.unmet; unmet = open_.fails.1.unmet });
  others = λ j d low other. record { each = λ k here. (open_.others j d low other).each k (part.fewer (slice_index_or conds j d).carrier k here) };
}

-- ---- blocked

not_held : (b : Box) (cond : Cond) (k : ℕ) → IsUnmet b cond k → Holds b cond → ⊥
not_held b cond k unmet held = true≢false (sym (held.each k unmet.here) ∙ unmet.unmet)

pub any_cond : Cond
any_cond = record { carrier = 0; inside = true; lo = 0; hi = 0 }

pub two_blocked : (case : Case) (b : Box) (conds : List Cond) (i j : ℕ) → i < j → j < length conds
    → ((d : Cond) → (k : ℕ) × IsUnmet b (slice_index_or conds i d) k) → ((d : Cond) → (k : ℕ) × IsUnmet b (slice_index_or conds j d) k) → IsDone case (members b) conds
two_blocked case b conds i j apart known first second = record {
  blocked = λ living some.
      let c = slice_index_or conds i any_cond in
      let d = slice_index_or conds j any_cond in
      two i j c d apart known (same_at conds i any_cond c (omega (arith, apart, known))) (same_at conds j any_cond d known)
      (λ held. not_held b c (first any_cond).0 (first any_cond).1 (record { each = held }))
      (λ held. not_held b d (second any_cond).0 (second any_cond).1 (record { each = held }));
}

pub two_done : (case : Case) (b : Box) (conds : List Cond) (i j : ℕ) → IsNextOpen b conds 0 i → IsNextOpen b conds (i + 1) j → IsDone case (members b) conds
two_done case b conds i j first second =
    two_blocked case b conds i j (omega (arith, second.later)) second.known first.fails second.fails

pub one_done : (case : Case) (old new : Box) (conds : List Cond) (place : ℕ) (cond : Cond) → IsOneOpen old conds place cond → IsTaken old new cond
    → IsDone case (members new) conds
one_done case old new conds place cond open_ taken = record {
  blocked = λ living some.
      let now = one_kept old new conds place cond open_ (record { fewer = taken.fewer; stays = taken.stays }) in
      one place cond now.known now.is (λ held. not_held new cond now.fails.0 now.fails.1 (record { each = held }))
      (λ j d low other. (now.others j d low other).each)
      (λ k here met. true≢false (sym met ∙ taken.none k here));
}

-- nothing is left to a carrier whose range was struck whole
pub wiped_all : (t : Trace) (old : Box) (c size : ℕ) → has_of t.counts t.entries ≡ sets.without old c (between 0 (size - 1)) → size_of t.counts c ≡ size → HasNone (box_of t) c
wiped_all t old c size is sized k here =
    let low : k < size_of t.counts c = has_size t.counts t.entries c k here in
    true≢false (sym here ∙ struck_gone old (has_of t.counts t.entries) c 0 (size - 1) is k (omega arith) (omega (arith, low, sized)))

pub none_there : (t : Trace) (c : ℕ) → size_of t.counts c ≡ 0 → HasNone (box_of t) c
none_there t c none k here = absurd (omega (arith, has_size t.counts t.entries c k here, none))

pub wiped_done : (case : Case) (b : ℕ → ℕ → Type 0) (conds : List Cond) (c : ℕ) → c < length (counts_of case) → HasNone b c → IsDone case b conds
wiped_done case b conds c known none = record {
  blocked = λ living some. let at = living c known in absurd (none at.0 at.1);
}

-- a case without carriers has nothing to block
pub nothing_done : (case : Case) (b : ℕ → ℕ → Type 0) (conds : List Cond) → length (counts_of case) ≤ 0 → IsDone case b conds
nothing_done case b conds few = record {
  blocked = λ living some. absurd (omega (arith, few, some, length-map case.carriers (λ c. length c.freqs)));
}

-- what follows from what an Ok says
pub on_ok : {A E P Q : Type 0} (r : Result A E) → OnOk r P → (P → Q) → OnOk r Q
on_ok (Ok x) p f = f p
on_ok (Err x) p f = p
