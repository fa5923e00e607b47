-- How the count and the lowest bit follow a change of a range.
use Rattle.std.proofs.Common.{◌≡◌, ℕ, zero, suc, ◌+◌, ◌-◌, ◌<◌, ◌≤◌, min, List, Bool, true, false, not, ◌&&◌, ◌||◌, length, refl, sym, ◌∙◌, ap, arith, inl, inr, if◌then◌else◌, nat_lt}
use Rattle.std.proofs.lemmas.Bool.{cases_Bool, cases_lt}
use Rattle.std.proofs.lemmas.Bool.Decides.{nat_tests}
use Rattle.rf_domain.specs.Indices.{flag, has_bit, between, flags_of, count_below, IsPadded, IsKept, IsLowest, IsOnly, IsNext, HasNoneFrom}
use Rattle.rf_domain.proofs.Bits.{length-flags_of, flag-flags_of, clear_past, padded_less, padded_more}
use Rattle.rf_domain.proofs.CountLaws.{count_ext, count_none, count_tail, count_parted, count_joined, count_sole, count_alone, count_zero}
use mathlib.Core.Bool.{and-false, or-true}
use Rattle.rf_domain.proofs.RangeLaws.{past_range}

-- the count after a range is cleared
pub count_cleared : (size : ℕ) (old now : List ℕ) (lo hi removed : ℕ) → hi < size
    → ((k : ℕ) → has_bit now k ≡ (has_bit old k && not (between lo hi k)))
    → removed ≡ count_below (λ k. has_bit old k && between lo hi k) (hi + 1)
    → count_below (has_bit old) size ≡ count_below (has_bit now) size + removed
count_cleared size old now lo hi removed within bits counted =
    let tail : count_below (λ k. has_bit old k && between lo hi k) size ≡ count_below (λ k. has_bit old k && between lo hi k) (hi + 1) =
    count_tail (λ k. has_bit old k && between lo hi k) (hi + 1) size (omega arith) (λ k past below. ap (λ b. has_bit old k && b) (past_range lo hi k (omega arith)) ∙ and-false (has_bit old k)) in
    let left : count_below (has_bit now) size ≡ count_below (λ k. has_bit old k && not (between lo hi k)) size = count_ext _ _ size (λ k below. bits k) in
    let parts = count_parted (has_bit old) (between lo hi) size in
    omega arith

pub count_filled : (size : ℕ) (old now : List ℕ) (lo hi added : ℕ) → hi < size
    → ((k : ℕ) → has_bit now k ≡ (has_bit old k || between lo hi k))
    → added ≡ count_below (λ k. between lo hi k && not (has_bit old k)) (hi + 1)
    → count_below (has_bit now) size ≡ count_below (has_bit old) size + added
count_filled size old now lo hi added within bits counted =
    let tail : count_below (λ k. between lo hi k && not (has_bit old k)) size ≡ count_below (λ k. between lo hi k && not (has_bit old k)) (hi + 1) =
    count_tail (λ k. between lo hi k && not (has_bit old k)) (hi + 1) size (omega arith) (λ k past below. ap (λ b. b && not (has_bit old k)) (past_range lo hi k (omega arith))) in
    let all : count_below (has_bit now) size ≡ count_below (λ k. has_bit old k || between lo hi k) size = count_ext _ _ size (λ k below. bits k) in
    let parts = count_joined (has_bit old) (between lo hi) size in
    omega arith

-- the lowest bit after a range is cleared
pub lowest_apart : (size : ℕ) (old now : List ℕ) (lo hi first : ℕ) → between lo hi first ≡ false → IsLowest size old first
    → ((k : ℕ) → has_bit now k ≡ (has_bit old k && not (between lo hi k))) → IsLowest size now first
lowest_apart size old now lo hi first apart lowest bits = record {
  within = lowest.within;
  here = λ some. bits first ∙ ap (λ b. has_bit old first && not b) apart ∙ ap (λ b. b && true) (lowest.here some);
  below = λ j low. bits j ∙ ap (λ b. b && not (between lo hi j)) (lowest.below j low);
}

pub lowest_after : (size : ℕ) (old now : List ℕ) (lo hi first next : ℕ) → lo ≤ first → IsLowest size old first
    → ((k : ℕ) → has_bit now k ≡ (has_bit old k && not (between lo hi k)))
    → next ≤ size → (next < size → has_bit now next ≡ true) → ((j : ℕ) → hi < j → j < next → has_bit now j ≡ false)
    → IsLowest size now next
lowest_after size old now lo hi first next ordered lowest bits within here least = record {
  within = within;
  here = here;
  below = λ j low. elim (cases_lt hi j) [
    | inl past ↦ least j past low
    | inr inside ↦ elim (cases_lt j first) [
      | inl early ↦ bits j ∙ ap (λ b. b && not (between lo hi j)) (lowest.below j early)
      | inr late ↦
          let test : between lo hi j ≡ true = grind (arith, nat_tests) in
          bits j ∙ ap (λ b. has_bit old j && not b) test ∙ and-false (has_bit old j)
    ]
  ];
}

-- the lowest bit after a range is filled
pub lowest_filled : (size : ℕ) (old now : List ℕ) (lo hi first : ℕ) → lo ≤ hi → hi < size → IsLowest size old first
    → ((k : ℕ) → has_bit now k ≡ (has_bit old k || between lo hi k)) → IsLowest size now (min first lo)
lowest_filled size old now lo hi first ordered within lowest bits = record {
  within = omega (arith, lowest.within);
  here = λ some. elim (cases_lt first lo) [
    | inl early ↦
        let at : min first lo ≡ first = omega arith in
        bits (min first lo) ∙ ap (λ k. has_bit old k || between lo hi k) at ∙ ap (λ b. b || between lo hi first) (lowest.here (omega arith))
    | inr late ↦
        let at : min first lo ≡ lo = omega arith in
        let test : between lo hi lo ≡ true = grind (arith, nat_tests) in
        bits (min first lo) ∙ ap (λ k. has_bit old k || between lo hi k) at ∙ ap (λ b. has_bit old lo || b) test ∙ or-true (has_bit old lo)
  ];
  below = λ j low.
      let test : between lo hi j ≡ false = let early : j < lo = omega arith in grind (arith, nat_tests) in
      bits j ∙ ap (λ b. has_bit old j || b) test ∙ ap (λ b. b || false) (lowest.below j (omega arith));
}

-- the flags' count is that of the bits
pub flags_count : (size : ℕ) (words : List ℕ) → IsPadded size words → count_below (has_bit words) size ≡ count_below (flag (flags_of size words)) (length (flags_of size words))
flags_count size words padded =
    count_ext (has_bit words) (flag (flags_of size words)) size (λ k below. sym (flag-flags_of size words padded k))
    ∙ ap (count_below (flag (flags_of size words))) (sym (length-flags_of size words))

-- where something is counted, the lowest bit is below the size
pub some_first : (size count first : ℕ) (words : List ℕ) → IsKept size count first words → 0 < count → first < size
some_first size count first words kept some = elim (cases_lt first size) [
  | inl below ↦ below
  | inr past ↦
      let none : count_below (has_bit words) size ≡ 0 = count_none (has_bit words) size (λ k low. kept.lowest.below k (omega arith)) in
      let counted = kept.counted in
      absurd (omega arith)
]

pub none_set : (size count first : ℕ) (words : List ℕ) (set : List Bool) → IsKept size count first words → flags_of size words ≡ set → count ≡ 0 → (k : ℕ) → flag set k ≡ false
none_set size count first words set kept is none k =
    ap (λ s. flag s k) (sym is) ∙ flag-flags_of size words kept.padded k ∙ elim (cases_lt k size) [
      | inl below ↦ count_zero (has_bit words) size (sym kept.counted ∙ none) k below
      | inr past ↦ clear_past size words kept.padded k past
    ]

pub first_next : (size count first from : ℕ) (words : List ℕ) (set : List Bool) → IsKept size count first words → flags_of size words ≡ set → 0 < count → from ≤ first → IsNext set from first
first_next size count first from words set kept is some early =
    let low = some_first size count first words kept some in record {
      later = early;
      known = omega (arith, length-flags_of size words, ap length is);
      here = ap (λ s. flag s first) (sym is) ∙ flag-flags_of size words kept.padded first ∙ kept.lowest.here low;
      least = λ j later below. ap (λ s. flag s j) (sym is) ∙ flag-flags_of size words kept.padded j ∙ kept.lowest.below j below;
    }

-- one index is in the set exactly where one is counted
pub first_only : (size count first : ℕ) (words : List ℕ) (set : List Bool) → IsKept size count first words → flags_of size words ≡ set → count ≡ 1 → IsOnly set first
first_only size count first words set kept is one =
    let low = some_first size count first words kept (omega arith) in
    let here = kept.lowest.here low in record {
      here = ap (λ s. flag s first) (sym is) ∙ flag-flags_of size words kept.padded first ∙ here;
      alone = λ j there.
          let bit : has_bit words j ≡ true = sym (flag-flags_of size words kept.padded j) ∙ ap (λ s. flag s j) is ∙ there in
          count_alone (has_bit words) size (sym kept.counted ∙ one) j first (kept.padded.clear j bit) low bit here;
    }

-- behind the one index there is none
pub none_behind : (size count first from : ℕ) (words : List ℕ) (set : List Bool) → IsKept size count first words → flags_of size words ≡ set → count ≡ 1 → first < from → HasNoneFrom set from
none_behind size count first from words set kept is one past = record {
  none = λ j later. elim (cases_Bool (flag set j)) [
    | inl here ↦ absurd (omega (arith, (first_only size count first words set kept is one).alone j here, later, past))
    | inr out ↦ out
  ];
}

pub only_counted : (size count first : ℕ) (words : List ℕ) (set : List Bool) → IsKept size count first words → flags_of size words ≡ set → (k : ℕ) → IsOnly set k → count ≡ 1
only_counted size count first words set kept is k only =
    let read : (j : ℕ) → has_bit words j ≡ flag set j = λ j. sym (flag-flags_of size words kept.padded j) ∙ ap (λ s. flag s j) is in
    let here : has_bit words k ≡ true = read k ∙ only.here in
    kept.counted ∙ count_sole (has_bit words) size k (kept.padded.clear k here) here (λ j there. only.alone j (sym (read j) ∙ there))

-- what a set keeps beside its words after a range is cleared
pub kept_cleared : (size count first lo hi removed next : ℕ) (old now : List ℕ) → IsKept size count first old → hi < size → length now ≡ length old
    → ((k : ℕ) → has_bit now k ≡ (has_bit old k && not (between lo hi k)))
    → removed ≡ count_below (λ k. has_bit old k && between lo hi k) (hi + 1)
    → IsLowest size now next → IsKept size (count - removed) next now
kept_cleared size count first lo hi removed next old now kept within len bits counted lowest =
    let fewer = count_cleared size old now lo hi removed within bits counted in
    let before = kept.counted in record {
      padded = padded_less size old now lo hi kept.padded len bits;
      counted = omega arith;
      lowest = lowest;
    }

-- and after a range is filled
pub kept_filled : (size count first lo hi added : ℕ) (old now : List ℕ) → IsKept size count first old → lo ≤ hi → hi < size → length now ≡ length old
    → ((k : ℕ) → has_bit now k ≡ (has_bit old k || between lo hi k))
    → added ≡ count_below (λ k. between lo hi k && not (has_bit old k)) (hi + 1)
    → IsKept size (count + added) (min first lo) now
kept_filled size count first lo hi added old now kept ordered within len bits counted =
    let more = count_filled size old now lo hi added within bits counted in
    let before = kept.counted in record {
      padded = padded_more size old now lo hi kept.padded len within bits;
      counted = omega arith;
      lowest = lowest_filled size old now lo hi first ordered within kept.lowest bits;
    }

-- the size is the number of flags
pub sized : (size : ℕ) (words : List ℕ) (set : List Bool) → flags_of size words ≡ set → length set ≡ size
sized size words set is = sym (ap length is) ∙ length-flags_of size words

every : (size n : ℕ) (words : List ℕ) → n ≤ size → ((k : ℕ) → has_bit words k ≡ nat_lt k size) → count_below (has_bit words) n ≡ n
every size zero words low bits = refl
every size (suc n) words low bits =
    let here : has_bit words n ≡ true = bits n ∙ (let below : n < size = omega arith in grind (arith, nat_tests)) in
    ap (λ b. count_below (has_bit words) n + (if b then 1 else 0)) here ∙ omega (arith, every size n words (omega arith) bits)

pub kept_full : (size : ℕ) (words : List ℕ) → IsPadded size words → ((k : ℕ) → has_bit words k ≡ nat_lt k size) → IsKept size size 0 words
kept_full size words padded bits = record {
  padded = padded;
  counted = sym (every size size words (omega arith) bits);
  lowest = record {
    within = omega arith;
    here = λ some. bits 0 ∙ (let below : 0 < size = some in grind (arith, nat_tests));
    below = λ j none. absurd (omega arith);
  };
}
