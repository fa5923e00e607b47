-- The conditions of a line that a box leaves open, and a line among lines by its number.
use Rattle.std.proofs.Common.{◌≡◌, ℕ, zero, suc, ◌+◌, ◌-◌, ◌<◌, ◌≤◌, ◌==◌, List, [], ◌∷◌, Bool, true, false, not, ◌&&◌, ◌||◌, ◌⊎◌, length, refl, sym, ◌∙◌, ap, subst, arith, inl, inr}
use Rattle.std.specs.Prelude.{Some, None, if◌then◌else◌, slice_index, slice_index_or}
use Rattle.std.specs.List.Sorted.{IsStrictlyIncreasing}
use Rattle.std.proofs.lemmas.Bool.Decides.{nat_tests}
use Rattle.std.proofs.lemmas.Bool.{cases_Bool, cases_lt, cases_eq, true≢false, eqb-true, eq-eqb}
use Rattle.rf_log.specs.declared.cond.Cond.{Cond}
use Rattle.rf_log.specs.Box.{Box, between, is_met, holds_throughout}
use Rattle.rf_log.specs.Case.{Case, Carrier, counts_of, count_of, no_carrier}
use Rattle.rf_log.specs.Hints.{Line, line_at, left_open, by_open}
use Rattle.rf_domain.specs.Sets as sets
use Rattle.rf_domain.specs.Sets.{size_of, sizes, has}
use Rattle.rf_domain.proofs.SetsLaws.{size_get}
use Rattle.rf_propagate.specs.Laws.{numbers_of}
use Rattle.rf_propagate.specs.Openings.{Holds, IsUnmet, HoldFrom, IsNextOpen, IsOneOpen}
use Rattle.rf_base.proofs.BoolLaws.{implies, implied}
use Rattle.rf_base.proofs.ListLaws.{flag_low}
use Rattle.rf_log.proofs.BoxLaws.{each_below-at, each_below-from}

size_in : (cs : List Carrier) (c : ℕ) → size_of (counts_of (record { carriers = cs; together = [] })) c ≡ length (slice_index_or cs c no_carrier).freqs
size_in [] c = refl
size_in (x ∷ xs) zero = refl
size_in (x ∷ xs) (suc c) = size_in xs c

pub size_is : (case : Case) (c : ℕ) → size_of (counts_of case) c ≡ count_of case c
size_is case c = size_in case.carriers c

-- an index of a set is below its size
pub low_in : (ss : List (List Bool)) (c k : ℕ) → has ss c k ≡ true → k < size_of (sizes ss) c
low_in ss c k here = subst (λ (n : ℕ). k < n) (sym (size_get ss c)) (flag_low (slice_index_or ss c []) k here)

pub low_of : (case : Case) (ss : List (List Bool)) → sizes ss ≡ counts_of case → (c k : ℕ) → has ss c k ≡ true → k < count_of case c
low_of case ss counts c k here =
    subst (λ (n : ℕ). k < n) (size_is case c) (subst (λ (ns : List ℕ). k < size_of ns c) counts (low_in ss c k here))

-- ---- the test and the relation

holds_is : (case : Case) (b : Box) (cond : Cond) → Holds b cond → holds_throughout case b cond ≡ true
holds_is case b cond held = each_below-from (count_of case cond.carrier) (λ k. not (b cond.carrier k) || is_met cond k) (λ k low.
    implies (b cond.carrier k) (is_met cond k) (held.each k))

fails_is : (case : Case) (b : Box) (cond : Cond) (k : ℕ) → IsUnmet b cond k → k < count_of case cond.carrier → holds_throughout case b cond ≡ false
fails_is case b cond k unmet low = elim (cases_Bool (holds_throughout case b cond)) [
  | inr no_ ↦ no_
  | inl all ↦ absurd (true≢false (sym (implied (b cond.carrier k) (is_met cond k)
      (each_below-at (count_of case cond.carrier) (λ j. not (b cond.carrier j) || is_met cond j) k all low) unmet.here) ∙ unmet.unmet))
]

-- ---- the conditions left open

pub none_open : (case : Case) (b : Box) (conds : List Cond) → HoldFrom b conds 0 → left_open case b conds ≡ []
none_open case b [] held = refl
none_open case b (cond ∷ conds) held =
    let here = holds_is case b cond (held.each 0 cond (omega arith) (omega arith)) in
    ap (λ (t : Bool). if not t then cond ∷ left_open case b conds else left_open case b conds) here
    ∙ none_open case b conds (record { each = λ j d from low. held.each (suc j) d (omega arith) (omega arith) })

pub one_open : (case : Case) (b : Box) (conds : List Cond) (place : ℕ) (cond : Cond) → IsOneOpen b conds place cond
    → ((k : ℕ) → b cond.carrier k ≡ true → k < count_of case cond.carrier) → left_open case b conds ≡ cond ∷ []
one_open case b [] place cond open_ known = absurd (omega (arith, open_.known))
one_open case b (first ∷ conds) zero cond open_ known =
    let fails : holds_throughout case b cond ≡ false = fails_is case b cond open_.fails.0 open_.fails.1 (known open_.fails.0 open_.fails.1.here) in
    let at_first : holds_throughout case b first ≡ false = ap (holds_throughout case b) open_.is ∙ fails in
    ap (λ (t : Bool). if not t then first ∷ left_open case b conds else left_open case b conds) at_first
    ∙ ap (λ (xs : List Cond). first ∷ xs) (none_open case b conds (record { each = λ j d from low. open_.others (suc j) d (omega arith) (λ e. absurd (omega (arith, e))) }))
    ∙ ap (λ (x : Cond). x ∷ []) open_.is
one_open case b (first ∷ conds) (suc place) cond open_ known =
    let here = holds_is case b first (open_.others 0 first (omega arith) (λ e. absurd (omega (arith, e)))) in
    let rest : IsOneOpen b conds place cond = record {
      known = omega (arith, open_.known);
      is = open_.is;
      fails = open_.fails;
      others = λ j d low other. open_.others (suc j) d (omega arith) (λ e. other (omega (arith, e)));
    } in
    ap (λ (t : Bool). if not t then first ∷ left_open case b conds else left_open case b conds) here
    ∙ one_open case b conds place cond rest known

-- a condition that doesn't hold is left open
some_open : (case : Case) (b : Box) (conds : List Cond) (j : ℕ) (d : Cond) → j < length conds → holds_throughout case b (slice_index_or conds j d) ≡ false
    → (c : Cond) × (rest : List Cond) × (left_open case b conds ≡ c ∷ rest)
some_open case b [] j d low fails = absurd (omega arith)
some_open case b (first ∷ conds) zero d low fails =
    (first, left_open case b conds, ap (λ (t : Bool). if not t then first ∷ left_open case b conds else left_open case b conds) fails)
some_open case b (first ∷ conds) (suc j) d low fails = elim (cases_Bool (holds_throughout case b first)) [
  | inr off ↦ (first, left_open case b conds, ap (λ (t : Bool). if not t then first ∷ left_open case b conds else left_open case b conds) off)
  | inl on ↦
      let rest = some_open case b conds j d (omega arith) fails in
      (rest.0, rest.1, ap (λ (t : Bool). if not t then first ∷ left_open case b conds else left_open case b conds) on ∙ rest.2)
]

-- one left open, and a further one
first_open : (case : Case) (b : Box) (first : Cond) (conds : List Cond) (j : ℕ) (d : Cond) → holds_throughout case b first ≡ false → j < length conds
    → holds_throughout case b (slice_index_or conds j d) ≡ false → by_open b (left_open case b (first ∷ conds)) ≡ None
first_open case b first conds j d off low fails =
    let rest = some_open case b conds j d low fails in
    ap (by_open b) (ap (λ (t : Bool). if not t then first ∷ left_open case b conds else left_open case b conds) off ∙ ap (λ (xs : List Cond). first ∷ xs) rest.2)

two_fail : (case : Case) (b : Box) (conds : List Cond) (i j : ℕ) (d : Cond) → i < j → j < length conds
    → holds_throughout case b (slice_index_or conds i d) ≡ false → holds_throughout case b (slice_index_or conds j d) ≡ false → by_open b (left_open case b conds) ≡ None
two_fail case b [] i j d before low one two = absurd (omega arith)
two_fail case b (first ∷ conds) i zero d before low one two = absurd (omega arith)
two_fail case b (first ∷ conds) zero (suc j) d before low one two = first_open case b first conds j d one (omega arith) two
two_fail case b (first ∷ conds) (suc i) (suc j) d before low one two = elim (cases_Bool (holds_throughout case b first)) [
  | inr off ↦ first_open case b first conds j d off (omega arith) two
  | inl on ↦
      ap (by_open b) (ap (λ (t : Bool). if not t then first ∷ left_open case b conds else left_open case b conds) on)
      ∙ two_fail case b conds i j d (omega arith) (omega arith) one two
]

pub two_open : (case : Case) (b : Box) (conds : List Cond) (i j : ℕ) → IsNextOpen b conds 0 i → IsNextOpen b conds (i + 1) j
    → ((c k : ℕ) → b c k ≡ true → k < count_of case c) → by_open b (left_open case b conds) ≡ None
two_open case b conds i j first second known =
    two_fail case b conds i j none (omega (arith, second.later)) second.known (fails (first.fails none)) (fails (second.fails none))
  where
    none : Cond
    none = record { carrier = 0; inside = true; lo = 0; hi = 0 }

    fails : {cond : Cond} → (k : ℕ) × IsUnmet b cond k → holds_throughout case b cond ≡ false
    fails {cond} some = fails_is case b cond some.0 some.1 (known cond.carrier some.0 some.1.here)

-- ---- what is taken out

-- the indices that meet a condition, in the words of sets
pub met_inside : (cond : Cond) → cond.inside ≡ true → is_met cond ≡ between cond.lo cond.hi
met_inside cond e = ap (λ (t : Bool). λ (k : ℕ). if t then between cond.lo cond.hi k else not (between cond.lo cond.hi k)) e

pub met_outside : (cond : Cond) → cond.inside ≡ false → is_met cond ≡ (λ k. not (between cond.lo cond.hi k))
met_outside cond e = ap (λ (t : Bool). λ (k : ℕ). if t then between cond.lo cond.hi k else not (between cond.lo cond.hi k)) e

-- the sets of the first carriers are empty
pub record IsClearTo (old now : List (List Bool)) (upto : ℕ) : Type 0 where
  pub sized : sizes now ≡ sizes old
  pub none : (c k : ℕ) → c < upto → has now c k ≡ false

without_kept : (b : Box) (c : ℕ) (gone : ℕ → Bool) (d k : ℕ) → b d k ≡ false → sets.without b c gone d k ≡ false
without_kept b c gone d k off = ap (λ (t : Bool). t && not ((d == c) && gone k)) off

pub without_gone : (b : Box) (c : ℕ) (gone : ℕ → Bool) (k : ℕ) → gone k ≡ true → sets.without b c gone c k ≡ false
without_gone b c gone k e =
    ap (λ (t : Bool). b c k && not (t && gone k)) (eq-eqb c c refl) ∙ ap (λ (t : Bool). b c k && not t) e ∙ none (b c k)
  where
    none : (t : Bool) → (t && false) ≡ false
    none true = refl
    none false = refl

is_in : (hi k : ℕ) → k ≤ hi → between 0 hi k ≡ true
is_in hi k low = grind (arith, nat_tests)

-- the next carrier's indices are gone too
pub clear_more : (old mid now : List (List Bool)) (c size : ℕ) → IsClearTo old mid c → size ≡ size_of (sizes mid) c → sizes now ≡ sizes mid
    → has now ≡ sets.without (has mid) c (between 0 (size - 1)) → IsClearTo old now (c + 1)
clear_more old mid now c size so is sized gone = record {
  sized = sized ∙ so.sized;
  none = λ d k low. elim (cases_eq d c) [
    | inr other ↦ ap (λ (b : Box). b d k) gone ∙ without_kept (has mid) c (between 0 (size - 1)) d k (so.none d k (omega arith))
    | inl at ↦ ap (λ (x : ℕ). has now x k) at ∙ (ap (λ (b : Box). b c k) gone ∙ here k (cases_Bool (has mid c k)))
  ];
}
  where
    here : (k : ℕ) → (has mid c k ≡ true) ⊎ (has mid c k ≡ false) → sets.without (has mid) c (between 0 (size - 1)) c k ≡ false
    here k (inr off) = without_kept (has mid) c (between 0 (size - 1)) c k off
    here k (inl on) = without_gone (has mid) c (between 0 (size - 1)) k (is_in (size - 1) k (let low = low_in mid c k on in omega (arith, low, is)))

-- a carrier without indices has none
pub clear_same : (old mid : List (List Bool)) (c size : ℕ) → IsClearTo old mid c → size ≡ size_of (sizes mid) c → size ≤ 0 → IsClearTo old mid (c + 1)
clear_same old mid c size so is none = record {
  sized = so.sized;
  none = λ d k low. elim (cases_lt d c) [
    | inl before ↦ so.none d k before
    | inr last ↦
        let at : d ≡ c = omega arith in
        ap (λ (x : ℕ). has mid x k) at ∙ here k (cases_Bool (has mid c k))
  ];
}
  where
    here : (k : ℕ) → (has mid c k ≡ true) ⊎ (has mid c k ≡ false) → has mid c k ≡ false
    here k (inr off) = off
    here k (inl on) = absurd (let low = low_in mid c k on in omega (arith, low, is))

-- ---- a line is found by its number

tail_rises : (x : ℕ) (xs : List ℕ) → IsStrictlyIncreasing (x ∷ xs) → IsStrictlyIncreasing xs
tail_rises x xs rising k low =
    let e : suc k + 1 ≡ suc (k + 1) = omega arith in
    subst (λ (n : ℕ). slice_index (x ∷ xs) (suc k) < slice_index (x ∷ xs) n) e (rising (suc k) (omega arith))

later : (line : Line) (lines : List Line) → IsStrictlyIncreasing (numbers_of (line ∷ lines)) → (k : ℕ) (d : Line) → k < length lines
    → line.number < (slice_index_or lines k d).number
later line [] rising k d low = absurd (omega arith)
later line (next ∷ lines) rising zero d low = rising 0 (omega arith)
later line (next ∷ lines) rising (suc k) d low =
    let here : line.number < next.number = rising 0 (omega arith) in
    let rest = later next lines (tail_rises line.number (numbers_of (next ∷ lines)) rising) k d (omega arith) in
    omega arith

pub found_at : (lines : List Line) → IsStrictlyIncreasing (numbers_of lines) → (line : Line) (k : ℕ) → k < length lines → slice_index_or lines k line ≡ line
    → line_at lines line.number ≡ Some line.conds
found_at [] rising line k low is = absurd (omega arith)
found_at (first ∷ lines) rising line zero low is =
    ap (λ (t : Bool). if t then Some first.conds else line_at lines line.number) (eq-eqb first.number line.number (ap (λ (x : Line). x.number) is))
    ∙ ap (λ (x : Line). Some x.conds) is
found_at (first ∷ lines) rising line (suc k) low is =
    let below : first.number < (slice_index_or lines k line).number = later first lines rising k line (omega arith) in
    let other : first.number ≡ line.number → ⊥ = λ e. absurd (omega (arith, below, e, ap (λ (x : Line). x.number) is)) in
    let apart : (first.number == line.number) ≡ false = elim (cases_Bool (first.number == line.number)) [
      | inl at ↦ absurd (other (eqb-true first.number line.number at))
      | inr away ↦ away
    ] in
    ap (λ (t : Bool). if t then Some first.conds else line_at lines line.number) apart
    ∙ found_at lines (tail_rises first.number (numbers_of lines) rising) line k (omega arith) is

-- no line has the number
pub not_found : (lines : List Line) (n : ℕ) → ((k : ℕ) (d : Line) → k < length lines → (slice_index_or lines k d).number ≡ n → ⊥) → line_at lines n ≡ None
not_found [] n other = refl
not_found (first ∷ lines) n other =
    let apart : (first.number == n) ≡ false = elim (cases_Bool (first.number == n)) [
      | inl at ↦ absurd (other 0 first (omega arith) (eqb-true first.number n at))
      | inr away ↦ away
    ] in
    ap (λ (t : Bool). if t then Some first.conds else line_at lines n) apart
    ∙ not_found lines n (λ k d low e. other (suc k) d (omega arith) e)
