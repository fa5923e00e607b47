-- Ranges of rising frequencies.
use Rattle.std.proofs.Common.{◌≡◌, ℕ, suc, zero, ◌+◌, ◌-◌, ◌<◌, ◌≤◌, List, length, get_or, inl, inr, arith, subst, pos, ℤ, ◌≤ℤ◌, ◌<ℤ◌, ◌↔◌}
use Rattle.std.specs.List.Sorted.{IsStrictlyIncreasing}
use Rattle.std.proofs.lemmas.Bool.{cases_lt}
use Rattle.std.proofs.lemmas.Int.{ints}
use Rattle.rf_terms.specs.Forms.{AreFrequencies}
use Rattle.rf_props.specs.Ranges.{IsIn, HasNoneIn, IsRangeOf, AreBelow}

-- what the search by halves keeps
pub record IsBetween (freqs : List ℕ) (number from upto : ℕ) : Type 0 where
  pub ordered : from ≤ upto
  pub few : upto ≤ length freqs
  pub below : (k : ℕ) → k < from → get_or freqs k 0 < number
  pub above : (k : ℕ) → upto ≤ k → k < length freqs → number ≤ get_or freqs k 0

rises : (freqs : List ℕ) → IsStrictlyIncreasing freqs → (j d : ℕ) → j + d < length freqs → get_or freqs j 0 ≤ get_or freqs (j + d) 0
rises freqs rising j zero known = let e : j + 0 ≡ j = omega arith in rw e (omega arith)
rises freqs rising j (suc d) known =
    let e : j + suc d ≡ j + d + 1 = omega arith in
    let before : get_or freqs j 0 ≤ get_or freqs (j + d) 0 = rises freqs rising j d (omega arith) in
    let step : get_or freqs (j + d) 0 < get_or freqs (j + d + 1) 0 = rising (j + d) (omega arith) in
    rw e (omega arith)

pub rising_le : (freqs : List ℕ) → IsStrictlyIncreasing freqs → (j k : ℕ) → j ≤ k → k < length freqs → get_or freqs j 0 ≤ get_or freqs k 0
rising_le freqs rising j k ordered known =
    let e : j + (k - j) ≡ k = omega arith in
    subst (λ (m : ℕ). get_or freqs j 0 ≤ get_or freqs m 0) e (rises freqs rising j (k - j) (omega arith))

pub between_up : (freqs : List ℕ) (number from upto middle : ℕ) → IsStrictlyIncreasing freqs → IsBetween freqs number from upto → middle < upto → from ≤ middle
    → get_or freqs middle 0 < number → IsBetween freqs number (middle + 1) upto
between_up freqs number from upto middle rising so low high less = record {
  ordered = omega arith;
  few = so.few;
  below = λ k under. omega (arith, rising_le freqs rising k middle (omega arith) (omega (arith, so.few)), less);
  above = so.above;
}

pub between_down : (freqs : List ℕ) (number from upto middle : ℕ) → IsStrictlyIncreasing freqs → IsBetween freqs number from upto → middle < upto → from ≤ middle
    → number ≤ get_or freqs middle 0 → IsBetween freqs number from middle
between_down freqs number from upto middle rising so low high more = record {
  ordered = high';
  few = omega (arith, so.few);
  below = so.below;
  above = λ k over known. omega (arith, rising_le freqs rising middle k over known, more);
}
  where
    high' : from ≤ middle
    high' = omega arith

-- the counts at both ends of a range
pub range_none : (freqs : List ℕ) (lo hi : ℤ) (low high first end : ℕ) → AreFrequencies freqs
    → ((f : ℕ) → f ≤ 10000000 → (f < low) ↔ (pos f <ℤ lo)) → ((f : ℕ) → f ≤ 10000000 → (f < high) ↔ (pos f ≤ℤ hi))
    → AreBelow freqs low first → AreBelow freqs high end → end ≤ first → HasNoneIn freqs lo hi
range_none freqs lo hi low high first end small from upto below above crossed = record {
  none = λ k known inside.
      let f = get_or freqs k 0 in
      let fits : f ≤ 10000000 = small k 0 known in
      let under : f < high = (upto f fits).1 inside.1 in
      elim (cases_lt k first) [
        | inl early ↦ let early' : pos f <ℤ lo = (from f fits).0 (below.below k early) in absurd (omega (arith, ints, inside.0, early'))
        | inr late ↦ absurd (omega (arith, above.above k (omega arith) known, under))
      ];
}

-- what lies in a range stands behind what is below it
pub from_first : (freqs : List ℕ) (low first k : ℕ) (lo hi : ℤ) → AreFrequencies freqs → ((f : ℕ) → f ≤ 10000000 → (f < low) ↔ (pos f <ℤ lo)) → AreBelow freqs low first
    → k < length freqs → IsIn lo hi (get_or freqs k 0) → first ≤ k
from_first freqs low first k lo hi small from below known within =
    let fits : get_or freqs k 0 ≤ 10000000 = small k 0 known in
    elim (cases_lt k first) [
      | inl earlier ↦ let less : pos (get_or freqs k 0) <ℤ lo = (from (get_or freqs k 0) fits).0 (below.below k earlier) in absurd (omega (arith, ints, within.0, less))
      | inr later ↦ later
    ]

from_below : (f low : ℕ) (lo : ℤ) → (f < low) ↔ (pos f <ℤ lo) → low ≤ f → lo ≤ℤ pos f
from_below f low lo same over = grind (arith, ints, same.1)

pub range_some : (freqs : List ℕ) (lo hi : ℤ) (low high first end : ℕ) → AreFrequencies freqs
    → ((f : ℕ) → f ≤ 10000000 → (f < low) ↔ (pos f <ℤ lo)) → ((f : ℕ) → f ≤ 10000000 → (f < high) ↔ (pos f ≤ℤ hi))
    → AreBelow freqs low first → AreBelow freqs high end → first < end → IsRangeOf freqs lo hi first (end - 1)
range_some freqs lo hi low high first end small from upto below above some = record {
  ordered = omega arith;
  known = omega (arith, above.few);
  inside = inside;
  all = λ k known within. (late k known within, early k known within);
}
  where
    inside : (k : ℕ) → first ≤ k → k ≤ end - 1 → IsIn lo hi (get_or freqs k 0)
    inside k over under =
        let known : k < length freqs = omega (arith, above.few) in
        let fits : get_or freqs k 0 ≤ 10000000 = small k 0 known in
        let not_low : low ≤ get_or freqs k 0 = below.above k over known in
        (from_below (get_or freqs k 0) low lo (from (get_or freqs k 0) fits) not_low, (upto (get_or freqs k 0) fits).0 (above.below k (omega arith)))

    late : (k : ℕ) → k < length freqs → IsIn lo hi (get_or freqs k 0) → first ≤ k
    late k known within = from_first freqs low first k lo hi small from below known within

    early : (k : ℕ) → k < length freqs → IsIn lo hi (get_or freqs k 0) → k ≤ end - 1
    early k known within =
        let fits : get_or freqs k 0 ≤ 10000000 = small k 0 known in
        let less : get_or freqs k 0 < high = (upto (get_or freqs k 0) fits).1 within.1 in
        elim (cases_lt k end) [
          | inl earlier ↦ omega arith
          | inr later ↦ absurd (omega (arith, above.above k later known, less))
        ]

-- the first numbers are below, and the one behind them isn't
pub below_at : (freqs : List ℕ) (number n : ℕ) → IsStrictlyIncreasing freqs → n ≤ length freqs → (0 < n → get_or freqs (n - 1) 0 < number) → (n < length freqs → number ≤ get_or freqs n 0)
    → AreBelow freqs number n
below_at freqs number n rising few last next = record {
  few = few;
  below = λ k under. omega (arith, rising_le freqs rising k (n - 1) (omega arith) (omega arith), last (omega arith));
  above = λ k over known. omega (arith, rising_le freqs rising n k over known, next (omega arith));
}

-- the ends of a range as the code has them
pub none_at : (freqs : List ℕ) (lo hi lo' hi' : ℤ) → lo' ≡ lo → hi' ≡ hi → HasNoneIn freqs lo' hi' → HasNoneIn freqs lo hi
none_at freqs lo hi lo' hi' e f none = subst (λ (x : ℤ). HasNoneIn freqs x hi) e (subst (λ (x : ℤ). HasNoneIn freqs lo' x) f none)

pub range_at : (freqs : List ℕ) (lo hi lo' hi' : ℤ) (first last : ℕ) → lo' ≡ lo → hi' ≡ hi → IsRangeOf freqs lo' hi' first last → IsRangeOf freqs lo hi first last
range_at freqs lo hi lo' hi' first last e f range = subst (λ (x : ℤ). IsRangeOf freqs x hi first last) e (subst (λ (x : ℤ). IsRangeOf freqs lo' x first last) f range)
