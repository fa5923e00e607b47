-- Where a condition holds throughout, and where it doesn't.
use Rattle.std.proofs.Common.{◌≡◌, ℕ, zero, suc, ◌+◌, ◌<◌, ◌≤◌, List, [], ◌∷◌, Bool, true, false, not, length, refl, sym, ap, subst, arith, inl, inr}
use Rattle.std.specs.Prelude.{if◌then◌else◌, nat_le, slice_index_or}
use Rattle.std.proofs.lemmas.Bool.{cases_lt, cases_eq, and_parts, leb-true}
use Rattle.std.proofs.lemmas.Bool.Decides.{nat_tests}
use Rattle.rf_log.specs.declared.cond.Cond.{Cond}
use Rattle.rf_log.specs.Box.{Box, between, is_met}
use Rattle.rf_domain.specs.Sets.{has}
use Rattle.rf_propagate.specs.Openings.{Holds, IsUnmet, HoldFrom, IsNextOpen, IsOneOpen}

pub inside_is : (cond : Cond) (k : ℕ) → cond.inside ≡ true → is_met cond k ≡ between cond.lo cond.hi k
inside_is cond k e = ap (λ (t : Bool). if t then between cond.lo cond.hi k else not (between cond.lo cond.hi k)) e

pub outside_is : (cond : Cond) (k : ℕ) → cond.inside ≡ false → is_met cond k ≡ not (between cond.lo cond.hi k)
outside_is cond k e = ap (λ (t : Bool). if t then between cond.lo cond.hi k else not (between cond.lo cond.hi k)) e

pub below_is : (lo hi k : ℕ) → k < lo → between lo hi k ≡ false
below_is lo hi k low = grind (arith, nat_tests)

pub ends_of : (lo hi k : ℕ) → between lo hi k ≡ true → (lo ≤ k) × (k ≤ hi)
ends_of lo hi k h = let parts = and_parts (nat_le lo k) _ h in (leb-true lo k parts.0, leb-true k hi parts.1)

-- the conditions from one place up to another hold throughout
pub record HoldBetween (b : Box) (conds : List Cond) (from to : ℕ) : Type 0 where
  pub each : (j : ℕ) (d : Cond) → from ≤ j → j < to → Holds b (slice_index_or conds j d)

pub hold_more : (b : Box) (conds : List Cond) (from to : ℕ) → HoldBetween b conds from to → ((d : Cond) → Holds b (slice_index_or conds to d))
    → HoldBetween b conds from (to + 1)
hold_more b conds from to held here = record {
  each = λ j d above below. elim (cases_eq j to) [
    | inl last ↦ subst (λ (i : ℕ). Holds b (slice_index_or conds i d)) (sym last) (here d)
    | inr other ↦ held.each j d above (omega arith)
  ];
}

-- the first open condition is the only one where the others hold
pub one_from : (b : Box) (conds : List Cond) (place : ℕ) (cond : Cond) → slice_index_or conds place cond ≡ cond
    → IsNextOpen b conds 0 place → HoldFrom b conds (place + 1) → IsOneOpen b conds place cond
one_from b conds place cond is next rest = record {
  known = next.known;
  is = is;
  fails = let some = next.fails cond in (some.0, subst (λ (x : Cond). IsUnmet b x some.0) is some.1);
  others = λ j d low other. elim (cases_lt j place) [
    | inl before ↦ next.before j d (omega arith) before
    | inr after ↦ rest.each j d (omega arith) low
  ];
}

pub all_held : (b : Box) (conds : List Cond) (from to : ℕ) → HoldBetween b conds from to → length conds ≤ to → HoldFrom b conds from
all_held b conds from to held past = record { each = λ j d above low. held.each j d above (omega arith) }

-- an element that is there, with whatever default
pub same_at : {A : Type 0} (xs : List A) (k : ℕ) (d e : A) → k < length xs → slice_index_or xs k e ≡ slice_index_or xs k d
same_at [] k d e low = absurd (omega arith)
same_at (x ∷ xs) zero d e low = refl
same_at (x ∷ xs) (suc k) d e low = same_at xs k d e (omega arith)

-- the condition that was read holds, with whatever default
pub holds_at : (b : Box) (conds : List Cond) (k : ℕ) (e : Cond) → k < length conds → Holds b (slice_index_or conds k e) → (d : Cond) → Holds b (slice_index_or conds k d)
holds_at b conds k e low held d = subst (λ (x : Cond). Holds b x) (same_at conds k d e low) held

pub one_at : (b : Box) (first second : List (List Bool)) (conds : List Cond) (place : ℕ) (d : Cond) → has first ≡ b → has second ≡ b
    → IsNextOpen (has first) conds 0 place → HoldFrom (has second) conds (place + 1) → IsOneOpen b conds place (slice_index_or conds place d)
one_at b first second conds place d is also next rest =
    let at = subst (λ (x : Box). IsNextOpen x conds 0 place) is next in
    one_from b conds place (slice_index_or conds place d) (same_at conds place d (slice_index_or conds place d) at.known) at
    (subst (λ (x : Box). HoldFrom x conds (place + 1)) also rest)
