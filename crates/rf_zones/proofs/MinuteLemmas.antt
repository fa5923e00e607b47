use Rattle.std.proofs.Common.{◌≡◌, ℕ, suc, zero, Bool, true, false, ◌<◌, ◌≤◌, ◌||◌, ◌&&◌, inl, inr, List, [], ◌∷◌, length, get_or, nat_lt, nat_le, nat_eq, not, refl, ap, sym, ◌∙◌, arith}
use Rattle.std.specs.List.{list_all, list_any}
use Rattle.std.proofs.lemmas.Bool.{cases_Bool, cases_lt, and_parts, and_from, or_parts, or_cases, or_left, or_right, ltb-true, leb-true, lt-ltb, le-leb, eqb-true, eqb-false, eq-eqb, not-true}
use Rattle.std.proofs.lemmas.Bool.{not-false, both_ways, false_from_ne_true}
use Rattle.std.proofs.lemmas.List.Folds.{Any-from_list_any, list_any_at}
use Rattle.rf_zones.specs.Times.{is_on, holds, is_interval}
use Rattle.rf_zones.specs.Masks.{has_bits}
use Rattle.rf_zones.specs.Slices.{some_below, on_at, share_minute, mask_at, is_slice}
use Rattle.rf_zones.specs.Timed.{share_begin}
use Rattle.rf_zones.proofs.BitLaws.{mask_bits}
use Rattle.rf_base.proofs.BoolLaws.{same_test}

pub some_below-at : (n k : ℕ) (test : ℕ → Bool) → k < n → test k ≡ true → some_below n test ≡ true
unfolding some_below
some_below-at zero k test low here = absurd (omega arith)
some_below-at (suc n) k test low here = elim (cases_lt k n) [
  | inl below ↦ or_left (some_below n test) (test n) (some_below-at n k test below here)
  | inr above ↦
      let same : k ≡ n = omega arith in
      or_right (some_below n test) (test n) (ap test (sym same) ∙ here)
]

pub some_below-from : (n : ℕ) (test : ℕ → Bool) → some_below n test ≡ true → (k : ℕ) × (k < n) × (test k ≡ true)
unfolding some_below
some_below-from zero test some = cc
some_below-from (suc n) test some = elim (or_cases (some_below n test) (test n) some) [
  | inl below ↦ let found = some_below-from n test below in (found.0, omega (arith, found.1), found.2)
  | inr here ↦ (n, omega arith, here)
]

-- whether an interval begins in a minute
abbrev pub begins : ℕ → List (ℕ × ℕ) → Bool
begins minute t = list_any (λ i. nat_eq i.0 minute) t

-- a minute of a set: the first of the week, or one in which an interval of the set begins
abbrev pub is_start : List (List (ℕ × ℕ)) → List ℕ → ℕ → Bool
is_start times set minute = nat_eq minute 0 || list_any (λ k. begins minute (get_or times k [])) set

-- an interval that holds a minute in which it doesn't begin holds the minute before
held_before : (is : List (ℕ × ℕ)) (n : ℕ) → list_any (holds (suc n)) is ≡ true → begins (suc n) is ≡ false → list_any (holds n) is ≡ true
held_before [] n on none = cc
held_before (i ∷ is) n on none =
    let others = or_parts (nat_eq i.0 (suc n)) (begins (suc n) is) none in
    elim (or_cases (holds (suc n) i) (list_any (holds (suc n)) is) on) [
      | inl here ↦
          let within = and_parts (nat_le i.0 (suc n)) (nat_lt (suc n) i.1) here in
          let low : i.0 ≤ n = omega (arith, leb-true i.0 (suc n) within.0, eqb-false i.0 (suc n) others.0) in
          let high : n < i.1 = omega (arith, ltb-true (suc n) i.1 within.1) in
          or_left (holds n i) (list_any (holds n) is) (and_from (nat_le i.0 n) (nat_lt n i.1) (le-leb i.0 n low) (lt-ltb n i.1 high))
      | inr later ↦ or_right (holds n i) (list_any (holds n) is) (held_before is n later others.1)
    ]

on_before : (t : List (ℕ × ℕ)) (n : ℕ) → is_on t (suc n) ≡ true → begins (suc n) t ≡ false → is_on t n ≡ true
on_before [] n on none = refl
on_before (i ∷ is) n on none = held_before (i ∷ is) n on none

all_before : (times : List (List (ℕ × ℕ))) (set : List ℕ) (n : ℕ) → list_all (on_at times (suc n)) set ≡ true →
    list_any (λ k. begins (suc n) (get_or times k [])) set ≡ false → list_all (on_at times n) set ≡ true
all_before times [] n on none = refl
all_before times (k ∷ set) n on none =
    let parts = and_parts (on_at times (suc n) k) (list_all (on_at times (suc n)) set) on in
    let here = and_parts (nat_lt k (length times)) (is_on (get_or times k []) (suc n)) parts.0 in
    let others = or_parts (begins (suc n) (get_or times k [])) (list_any (λ j. begins (suc n) (get_or times j [])) set) none in
    and_from (on_at times n k) (list_all (on_at times n) set)
    (and_from (nat_lt k (length times)) (is_on (get_or times k []) n) here.0 (on_before (get_or times k []) n here.1 others.0))
    (all_before times set n parts.1 others.1)

-- where a set shares a minute, it shares one in which an interval of it begins, or the first
pub shared_start : (times : List (List (ℕ × ℕ))) (set : List ℕ) (minute : ℕ) → list_all (on_at times minute) set ≡ true →
    (start : ℕ) × (start ≤ minute) × (is_start times set start ≡ true) × (list_all (on_at times start) set ≡ true)
shared_start times set zero on = (0, omega arith, refl, on)
shared_start times set (suc n) on = elim (cases_Bool (list_any (λ k. begins (suc n) (get_or times k [])) set)) [
  | inl here ↦
      let begun : is_start times set (suc n) ≡ true = or_right (nat_eq (suc n) 0) (list_any (λ k. begins (suc n) (get_or times k [])) set) here in
      (suc n, omega arith, begun, on)
  | inr none ↦
      let before = shared_start times set n (all_before times set n on none) in
      (before.0, omega (arith, before.1), before.2, before.3)
]

-- a number that is there already adds nothing
pub no_more : (test : ℕ → Bool) (xs : List ℕ) (x : ℕ) → list_any (nat_eq x) xs ≡ true → list_any test xs ≡ (list_any test xs || test x)
no_more test xs x there = same_test (list_any test xs) (list_any test xs || test x)
    (λ some. or_left (list_any test xs) (test x) some)
    (λ some. elim (or_cases (list_any test xs) (test x) some) [
      | inl before ↦ before
      | inr here ↦
          let found = Any-from_list_any (nat_eq x) xs there in
          let same : x ≡ found.1 = eqb-true x found.1 found.4 in
          list_any_at test xs found.0 found.1 found.2 (ap test (found.3 ∙ sym same) ∙ here)
    ])

all_unless_other : (test : ℕ → Bool) (xs : List ℕ) → list_any (λ x. not (test x)) xs ≡ false → list_all test xs ≡ true
all_unless_other test [] none = refl
all_unless_other test (x ∷ xs) none =
    let parts = or_parts (not (test x)) (list_any (λ y. not (test y)) xs) none in
    and_from (test x) (list_all test xs) (not-false (test x) parts.0) (all_unless_other test xs parts.1)

-- what the masks of the starts of these times pass
abbrev pub passes_start : List (List (ℕ × ℕ)) → (ℕ → Bool) → List (List (ℕ × ℕ)) → Bool
passes_start times test ts = test (mask_at times 0) || list_any (λ t. list_any (λ i. test (mask_at times i.0)) t) ts

from_interval : (test : ℕ → Bool) (is : List (ℕ × ℕ)) → list_all is_interval is ≡ true → list_any (λ i. test i.0) is ≡ true → (minute : ℕ) × (minute < 10080) × (test minute ≡ true)
from_interval test [] valid some = cc
from_interval test (i ∷ is) valid some =
    let parts = and_parts (is_interval i) (list_all is_interval is) valid in
    elim (or_cases (test i.0) (list_any (λ j. test j.0) is) some) [
      | inl here ↦
          let ends = and_parts (nat_lt i.0 i.1) (nat_le i.1 10080) parts.0 in
          (i.0, omega (arith, ltb-true i.0 i.1 ends.0, leb-true i.1 10080 ends.1), here)
      | inr later ↦ from_interval test is parts.1 later
    ]

from_times : (test : ℕ → Bool) (ts : List (List (ℕ × ℕ))) → list_all (list_all is_interval) ts ≡ true →
    list_any (λ t. list_any (λ i. test i.0) t) ts ≡ true → (minute : ℕ) × (minute < 10080) × (test minute ≡ true)
from_times test [] valid some = cc
from_times test (t ∷ ts) valid some =
    let parts = and_parts (list_all is_interval t) (list_all (list_all is_interval) ts) valid in
    elim (or_cases (list_any (λ i. test i.0) t) (list_any (λ u. list_any (λ i. test i.0) u) ts) some) [
      | inl here ↦ from_interval test t parts.0 here
      | inr later ↦ from_times test ts parts.1 later
    ]

-- a start that passes is a minute that passes
pub start_is_minute : (times : List (List (ℕ × ℕ))) (test : ℕ → Bool) → list_all (list_all is_interval) times ≡ true → passes_start times test times ≡ true →
    (minute : ℕ) × (minute < 10080) × (test (mask_at times minute) ≡ true)
start_is_minute times test valid some =
    elim (or_cases (test (mask_at times 0)) (list_any (λ t. list_any (λ i. test (mask_at times i.0)) t) times) some) [
      | inl first ↦ (0, omega arith, first)
      | inr later ↦ from_times (λ minute. test (mask_at times minute)) times valid later
    ]

to_interval : (test : ℕ → Bool) (minute : ℕ) (is : List (ℕ × ℕ)) → begins minute is ≡ true → test minute ≡ true → list_any (λ i. test i.0) is ≡ true
to_interval test minute [] begun here = cc
to_interval test minute (i ∷ is) begun here = elim (or_cases (nat_eq i.0 minute) (begins minute is) begun) [
  | inl first ↦ or_left (test i.0) (list_any (λ j. test j.0) is) (ap test (eqb-true i.0 minute first) ∙ here)
  | inr later ↦ or_right (test i.0) (list_any (λ j. test j.0) is) (to_interval test minute is later here)
]

to_times : (test : ℕ → Bool) (times : List (List (ℕ × ℕ))) (minute k : ℕ) → k < length times → begins minute (get_or times k []) ≡ true → test minute ≡ true →
    list_any (λ t. list_any (λ i. test i.0) t) times ≡ true
to_times test times minute k within begun here =
    list_any_at (λ t. list_any (λ i. test i.0) t) times k [] within (to_interval test minute (get_or times k []) begun here)

-- a start of a set that is on in it is a start of all
to_set : (test : ℕ → Bool) (times : List (List (ℕ × ℕ))) (set : List ℕ) (minute : ℕ) → list_any (λ k. begins minute (get_or times k [])) set ≡ true → list_all (on_at times minute) set ≡ true →
    test minute ≡ true → list_any (λ t. list_any (λ i. test i.0) t) times ≡ true
to_set test times [] minute begun on here = cc
to_set test times (k ∷ set) minute begun on here =
    let parts = and_parts (on_at times minute k) (list_all (on_at times minute) set) on in
    let there = and_parts (nat_lt k (length times)) (is_on (get_or times k []) minute) parts.0 in
    elim (or_cases (begins minute (get_or times k [])) (list_any (λ j. begins minute (get_or times j [])) set) begun) [
      | inl first ↦ to_times test times minute k (ltb-true k (length times) there.0) first here
      | inr later ↦ to_set test times set minute later parts.1 here
    ]

-- the masks of the starts tell which sets share a minute
pub starts_tell : (times : List (List (ℕ × ℕ))) (set : List ℕ) → list_all (list_all is_interval) times ≡ true → passes_start times (has_bits set) times ≡ share_minute times set
unfolding share_minute
starts_tell times set valid = same_test (passes_start times (has_bits set) times) (some_below 10080 (λ minute. list_all (on_at times minute) set))
    (λ some.
    let found = start_is_minute times (has_bits set) valid some in
    some_below-at 10080 found.0 (λ minute. list_all (on_at times minute) set) found.1 (sym (mask_bits times found.0 set) ∙ found.2))
    (λ shared.
    let found = some_below-from 10080 (λ minute. list_all (on_at times minute) set) shared in
    let start = shared_start times set found.0 found.2 in
    let here : has_bits set (mask_at times start.0) ≡ true = mask_bits times start.0 set ∙ start.3 in
    elim (or_cases (nat_eq start.0 0) (list_any (λ k. begins start.0 (get_or times k [])) set) start.2) [
      | inl first ↦
          or_left (has_bits set (mask_at times 0)) (list_any (λ t. list_any (λ i. has_bits set (mask_at times i.0)) t) times)
          (ap (λ minute. has_bits set (mask_at times minute)) (sym (eqb-true start.0 0 first)) ∙ here)
      | inr later ↦
          or_right (has_bits set (mask_at times 0)) (list_any (λ t. list_any (λ i. has_bits set (mask_at times i.0)) t) times)
          (to_set (λ minute. has_bits set (mask_at times minute)) times set start.0 later start.3 here)
    ])

-- each mask is that of a minute
pub starts_real : (times : List (List (ℕ × ℕ))) (masks : List ℕ) → list_all (list_all is_interval) times ≡ true →
    ((test : ℕ → Bool) → list_any test masks ≡ passes_start times test times) → list_all (is_slice times) masks ≡ true
unfolding is_slice
starts_real times masks valid told = all_unless_other (is_slice times) masks (false_from_ne_true (list_any (λ mask. not (is_slice times mask)) masks) (λ some.
    let found = start_is_minute times (λ mask. not (is_slice times mask)) valid (sym (told (λ mask. not (is_slice times mask))) ∙ some) in
    both_ways (is_slice times (mask_at times found.0)) (not-true (is_slice times (mask_at times found.0)) found.2)
    (some_below-at 10080 found.0 (λ minute. nat_eq (mask_at times found.0) (mask_at times minute)) found.1 (eq-eqb (mask_at times found.0) (mask_at times found.0) refl))))

from_begin : (times : List (List (ℕ × ℕ))) (set : List ℕ) (is : List (ℕ × ℕ)) → share_begin times set is ≡ true → (minute : ℕ) × (minute < 10080) × (list_all (on_at times minute) set ≡ true)
from_begin times set [] some = cc
from_begin times set (i ∷ is) some = elim (or_cases (nat_lt i.0 10080 && list_all (on_at times i.0) set) (share_begin times set is) some) [
  | inl here ↦
      let parts = and_parts (nat_lt i.0 10080) (list_all (on_at times i.0) set) here in
      (i.0, ltb-true i.0 10080 parts.0, parts.1)
  | inr later ↦ from_begin times set is later
]

from_begins : (times : List (List (ℕ × ℕ))) (set ks : List ℕ) → list_any (λ k. share_begin times set (get_or times k [])) ks ≡ true →
    (minute : ℕ) × (minute < 10080) × (list_all (on_at times minute) set ≡ true)
from_begins times set [] some = cc
from_begins times set (k ∷ ks) some = elim (or_cases (share_begin times set (get_or times k [])) (list_any (λ j. share_begin times set (get_or times j [])) ks) some) [
  | inl here ↦ from_begin times set (get_or times k []) here
  | inr later ↦ from_begins times set ks later
]

to_begin : (times : List (List (ℕ × ℕ))) (set : List ℕ) (minute : ℕ) (is : List (ℕ × ℕ)) → minute < 10080 →
    list_all (on_at times minute) set ≡ true → begins minute is ≡ true → share_begin times set is ≡ true
to_begin times set minute is within on begun =
    to_interval (λ m. nat_lt m 10080 && list_all (on_at times m) set) minute is begun
    (and_from (nat_lt minute 10080) (list_all (on_at times minute) set) (lt-ltb minute 10080 within) on)

to_begins : (times : List (List (ℕ × ℕ))) (set ks : List ℕ) (minute : ℕ) → minute < 10080 → list_all (on_at times minute) set ≡ true → list_any (λ k. begins minute (get_or times k [])) ks ≡ true →
    list_any (λ k. share_begin times set (get_or times k [])) ks ≡ true
to_begins times set [] minute within on begun = cc
to_begins times set (k ∷ ks) minute within on begun = elim (or_cases (begins minute (get_or times k [])) (list_any (λ j. begins minute (get_or times j [])) ks) begun) [
  | inl here ↦
      or_left (share_begin times set (get_or times k [])) (list_any (λ j. share_begin times set (get_or times j [])) ks) (to_begin times set minute (get_or times k []) within on here)
  | inr later ↦
      or_right (share_begin times set (get_or times k [])) (list_any (λ j. share_begin times set (get_or times j [])) ks) (to_begins times set ks minute within on later)
]

-- a set that is on in the first minute shares one
pub shared_first : (times : List (List (ℕ × ℕ))) (set : List ℕ) → list_all (on_at times 0) set ≡ true → true ≡ share_minute times set
unfolding share_minute
shared_first times set on = sym (some_below-at 10080 0 (λ minute. list_all (on_at times minute) set) (omega arith) on)

-- one that isn't shares a minute where it shares one in which an interval of it begins
pub shared_later : (times : List (List (ℕ × ℕ))) (set : List ℕ) → list_all (on_at times 0) set ≡ false → list_any (λ k. share_begin times set (get_or times k [])) set ≡ share_minute times set
unfolding share_minute
shared_later times set off = same_test (list_any (λ k. share_begin times set (get_or times k [])) set) (some_below 10080 (λ minute. list_all (on_at times minute) set))
    (λ some.
    let found = from_begins times set set some in
    some_below-at 10080 found.0 (λ minute. list_all (on_at times minute) set) found.1 found.2)
    (λ shared.
    let found = some_below-from 10080 (λ minute. list_all (on_at times minute) set) shared in
    let start = shared_start times set found.0 found.2 in
    elim (or_cases (nat_eq start.0 0) (list_any (λ k. begins start.0 (get_or times k [])) set) start.2) [
      | inl first ↦ absurd (both_ways (list_all (on_at times 0) set) off (ap (λ minute. list_all (on_at times minute) set) (sym (eqb-true start.0 0 first)) ∙ start.3))
      | inr later ↦ to_begins times set set start.0 (omega (arith, found.1, start.1)) start.3 later
    ])
