-- Words with a range of bits set or cleared.
use Rattle.std.proofs.Common.{replicate, ◌≡◌, ◌≢◌, ℕ, zero, suc, ◌+◌, ◌-◌, ◌*◌, ◌/◌, ◌%◌, ◌^◌, ◌<◌, ◌≤◌, min, max, List, [], Bool, true, false, not, ◌&&◌, ◌||◌, length, get_or, set, refl, sym, ◌∙◌}
use Rattle.std.proofs.Common.{ap, arith, inl, inr, w64}
use Rattle.std.specs.Prelude.{Option, None, Some, MatchOption, ◌==◌, nat_le, nat_lt, slice_index_or, bit_and, bit_or}
use Rattle.std.specs.Int.{bit_at, bit_not, trailing_zeros}
use Rattle.std.proofs.lemmas.Bool.{cases_Bool, cases_lt, and_parts, leb-true, ltb-true, true≢false}
use Rattle.std.proofs.lemmas.Nat.Bits.{bit_at_and, bit_at_or, bit_at_not, bit_at_mask_inside, bit_at_mask_below, bit_at_ones, bit_at_ones_above, ones_shl, ones_shr, bit_at-zero, bit_at-lt}
use Rattle.std.proofs.lemmas.Nat.Bits.{bit_at-trailing_zeros, bit_at_above}
use Rattle.std.proofs.Math.Pow.{shr-shr}
use Rattle.std.proofs.Math.Nat.{lt_of_le_of_lt, div-le_self}
use Rattle.std.proofs.lemmas.List.FromFn.{length-map-range_with_len, get_or-map-range_with_len}
use Rattle.std.proofs.Math.ListN.{length-set}
use Rattle.std.proofs.lemmas.List.{get_or-set_same, get_or-set_other, get_or_past}
use Rattle.std.proofs.lemmas.Bool.Decides.{nat_tests}
use Rattle.std.proofs.lemmas.Grind.{common_steps}
use Rattle.rf_domain.specs.declared.limits.TheConstants.{INDEX_LIMIT}
use Rattle.rf_domain.specs.Indices.{flag, has_bit, between, flags_of, IsPadded, IsWhole, IsFirstBit, IsFirstClear, IsRun, HasNoneFrom, IsNext}
use Rattle.rf_base.proofs.NumberLaws.{below_two, min_test, max_test}
use Rattle.rf_base.proofs.BoolLaws.{not_is}

-- the mask that is made by two shifts has the bits from first to last
pub mask_bit : (first last i : ℕ) → first ≤ last → last < 64 → i < 64
    → (bit_at (bit_and ((2 ^ 64 - 1) * 2 ^ first % 2 ^ 64) ((2 ^ 64 - 1) / 2 ^ (63 - last))) i == 1) ≡ between first last i
mask_bit first last i ordered small here =
    rw (
      bit_at_and ((2 ^ 64 - 1) * 2 ^ first % 2 ^ 64) ((2 ^ 64 - 1) / 2 ^ (63 - last)) i,
      ones_shl 64 first (omega arith),
      ones_shr 64 (63 - last) (omega arith),
    ) (
    elim (cases_lt i first) [
      | inl below ↦ rw (bit_at_mask_below first 64 i below) (grind (arith, common_steps))
      | inr above ↦ rw (bit_at_mask_inside first 64 i above here) (elim (cases_lt last i) [
        | inl past ↦ rw (bit_at_ones_above (64 - (63 - last)) i (omega arith)) (grind (arith, common_steps))
        | inr within ↦ rw (bit_at_ones (64 - (63 - last)) i (omega arith)) (grind (arith, common_steps))
      ])
    ])

pub between_shift : (base lo hi i : ℕ) → base ≤ hi → lo ≤ base + 63 → i < 64
    → between (max lo base - base) (min hi (base + 63) - base) i ≡ between lo hi (base + i)
between_shift base lo hi i low high here = grind (arith, nat_tests)

pub flip_test : (b : ℕ) → b < 2 → (1 - b == 1) ≡ not (b == 1)
flip_test b small_b = elim (below_two b small_b) [ inl d ↦ rw d | inr d ↦ rw d ]

-- what a bit becomes, by the old one and the mask's
pub cleared_bit : (old mask : ℕ) → mask < 2 ^ 64 → (i : ℕ) → i < 64
    → (bit_at (bit_and old (bit_not w64 mask)) i == 1) ≡ ((bit_at old i == 1) && not (bit_at mask i == 1))
cleared_bit old mask fits i here =
    rw (bit_at_and old (bit_not w64 mask) i, bit_at_not w64 mask i fits here)
    (min_test (bit_at old i) (1 - bit_at mask i) (bit_at-lt old i) (omega arith) ∙ ap (λ b. (bit_at old i == 1) && b) (flip_test (bit_at mask i) (bit_at-lt mask i)))

pub added_bit : (old mask i : ℕ) → (bit_at (bit_or old mask) i == 1) ≡ ((bit_at old i == 1) || (bit_at mask i == 1))
added_bit old mask i = rw (bit_at_or old mask i) (max_test (bit_at old i) (bit_at mask i) (bit_at-lt old i) (bit_at-lt mask i))

-- the flags

pub length-flags_of : (size : ℕ) (words : List ℕ) → length (flags_of size words) ≡ size
unfolding flags_of
length-flags_of size words = length-map-range_with_len (has_bit words) 0 size

pub flag-flags_of : (size : ℕ) (words : List ℕ) → IsPadded size words → (k : ℕ) → flag (flags_of size words) k ≡ has_bit words k
unfolding flags_of
flag-flags_of size words padded k = elim (cases_lt k size) [
  | inl known ↦ get_or-map-range_with_len (has_bit words) 0 size k k false known (omega arith)
  | inr past ↦ get_or_past (flags_of size words) k false (omega (arith, length-flags_of size words)) ∙ sym (elim (cases_Bool (has_bit words k)) [
    | inl set_there ↦ absurd (omega (arith, padded.clear k set_there))
    | inr clear_there ↦ clear_there
  ])
]

-- the words below `upto` have been changed by f at the indices from lo to hi
pub record Changed (f : Bool → Bool → Bool) (before now : List ℕ) (lo hi upto : ℕ) : Type 0 where
  pub len : length now ≡ length before
  pub done : (k : ℕ) → k / 64 < upto → has_bit now k ≡ f (has_bit before k) (between lo hi k)
  pub rest : (k : ℕ) → upto ≤ k / 64 → has_bit now k ≡ has_bit before k

pub changed_step : (f : Bool → Bool → Bool) (before now : List ℕ) (lo hi w word mask : ℕ)
    → Changed f before now lo hi w → w < length now
    → ((i : ℕ) → i < 64 → (bit_at word i == 1) ≡ f (bit_at (slice_index_or now w 0) i == 1) (bit_at mask i == 1))
    → ((i : ℕ) → i < 64 → (bit_at mask i == 1) ≡ between lo hi (64 * w + i))
    → Changed f before (set now w word) lo hi (w + 1)
changed_step f before now lo hi w word mask changed known bits masked = record {
  len = length-set now w word ∙ changed.len;
  done = λ k below. elim (cases_lt (k / 64) w) [
    | inl earlier ↦ other k (λ e. omega arith) ∙ changed.done k earlier
    | inr here ↦ at_word k (omega arith)
  ];
  rest = λ k later. other k (λ e. omega arith) ∙ changed.rest k (omega arith);
}
  where
    other : (k : ℕ) → (k / 64 ≡ w → ⊥) → has_bit (set now w word) k ≡ has_bit now k
    other k apart = ap (λ x. bit_at x (k % 64) == 1) (get_or-set_other now w (k / 64) word 0 apart)

    at_word : (k : ℕ) → k / 64 ≡ w → has_bit (set now w word) k ≡ f (has_bit before k) (between lo hi k)
    at_word k same =
        let read : slice_index_or (set now w word) (k / 64) 0 ≡ word = rw same (get_or-set_same now w word 0 known) in
        let small : k % 64 < 64 = omega arith in
        let place : 64 * w + k % 64 ≡ k = omega arith in
        let old : (bit_at (slice_index_or now w 0) (k % 64) == 1) ≡ has_bit before k =
        ap (λ x. bit_at (slice_index_or now x 0) (k % 64) == 1) (sym same) ∙ changed.rest k (omega arith) in
        ap (λ x. bit_at x (k % 64) == 1) read ∙ bits (k % 64) small ∙ ap (λ b. f b (bit_at mask (k % 64) == 1)) old
        ∙ ap (λ b. f (has_bit before k) b) (masked (k % 64) small ∙ ap (between lo hi) place)

pub between_below : (lo hi k : ℕ) → k / 64 < lo / 64 → between lo hi k ≡ false
between_below lo hi k h = let low : k < lo = omega arith in grind (arith, nat_tests)

pub between_above : (lo hi k : ℕ) → hi / 64 < k / 64 → between lo hi k ≡ false
between_above lo hi k h = let high : hi < k = omega arith in grind (arith, nat_tests)

-- before the first word that the range meets, nothing changes
pub changed_first : (f : Bool → Bool → Bool) → ((b : Bool) → f b false ≡ b) → (words : List ℕ) (lo hi : ℕ) → Changed f words words lo hi (lo / 64)
changed_first f idle words lo hi = record {
  len = refl;
  done = λ k below. sym (ap (f (has_bit words k)) (between_below lo hi k below) ∙ idle (has_bit words k));
  rest = λ k later. refl;
}

-- after the last word, all is changed
pub changed_last : (f : Bool → Bool → Bool) → ((b : Bool) → f b false ≡ b) → (before now : List ℕ) (lo hi : ℕ)
    → Changed f before now lo hi (hi / 64 + 1) → (k : ℕ) → has_bit now k ≡ f (has_bit before k) (between lo hi k)
changed_last f idle before now lo hi changed k = elim (cases_lt (k / 64) (hi / 64 + 1)) [
  | inl below ↦ changed.done k below
  | inr later ↦ changed.rest k later ∙ sym (ap (f (has_bit before k)) (between_above lo hi k (omega arith)) ∙ idle (has_bit before k))
]

pub and_idle : (b : Bool) → (b && not false) ≡ b
and_idle true = refl
and_idle false = refl

-- the padding stays where only indices below the size are changed
pub padded_less : (size : ℕ) (before now : List ℕ) (lo hi : ℕ) → IsPadded size before → length now ≡ length before
    → ((k : ℕ) → has_bit now k ≡ (has_bit before k && not (between lo hi k))) → IsPadded size now
padded_less size before now lo hi padded len bits = record {
  small = padded.small;
  room = rw len padded.room;
  few = rw len padded.few;
  clear = λ k there. padded.clear k (and_parts (has_bit before k) _ (sym (bits k) ∙ there)).0;
}

pub padded_more : (size : ℕ) (before now : List ℕ) (lo hi : ℕ) → IsPadded size before → length now ≡ length before → hi < size
    → ((k : ℕ) → has_bit now k ≡ (has_bit before k || between lo hi k)) → IsPadded size now
padded_more size before now lo hi padded len within bits = record {
  small = padded.small;
  room = rw len padded.room;
  few = rw len padded.few;
  clear = λ k there. elim (cases_Bool (has_bit before k)) [
    | inl had ↦ padded.clear k had
    | inr had_not ↦
        let test : between lo hi k ≡ true = sym (ap (λ b. b || between lo hi k) had_not) ∙ sym (bits k) ∙ there in
        omega (arith, leb-true k hi (and_parts (nat_le lo k) _ test).1)
  ];
}

pub flags_less : (size : ℕ) (before now : List ℕ) (lo hi : ℕ) → IsPadded size before → length now ≡ length before
    → ((k : ℕ) → has_bit now k ≡ (has_bit before k && not (between lo hi k)))
    → (k : ℕ) → flag (flags_of size now) k ≡ (flag (flags_of size before) k && not (between lo hi k))
flags_less size before now lo hi padded len bits k =
    flag-flags_of size now (padded_less size before now lo hi padded len bits) k ∙ bits k
    ∙ ap (λ b. b && not (between lo hi k)) (sym (flag-flags_of size before padded k))

pub flags_more : (size : ℕ) (before now : List ℕ) (lo hi : ℕ) → IsPadded size before → length now ≡ length before → hi < size
    → ((k : ℕ) → has_bit now k ≡ (has_bit before k || between lo hi k))
    → (k : ℕ) → flag (flags_of size now) k ≡ (flag (flags_of size before) k || between lo hi k)
flags_more size before now lo hi padded len within bits k =
    flag-flags_of size now (padded_more size before now lo hi padded len within bits) k ∙ bits k
    ∙ ap (λ b. b || between lo hi k) (sym (flag-flags_of size before padded k))

-- the next index

-- a bit of the word shifted down to k is that of a later index
pub bit_later : (words : List ℕ) (k i : ℕ) → k % 64 + i < 64
    → (bit_at (get_or words (k / 64) 0 / 2 ^ (k % 64)) i == 1) ≡ has_bit words (k + i)
bit_later words k i within =
    let word : (k + i) / 64 ≡ k / 64 = omega arith in
    let place : (k + i) % 64 ≡ k % 64 + i = omega arith in
    rw (word, place) (ap (λ x. x % 2 == 1) (shr-shr (get_or words (k / 64) 0) (k % 64) i))

-- where the shifted word is 0, the rest of the word's indices are out
pub word_clear : (words : List ℕ) (k j : ℕ) → get_or words (k / 64) 0 / 2 ^ (k % 64) ≡ 0 → k ≤ j → j < (k / 64 + 1) * 64 → has_bit words j ≡ false
word_clear words k j empty later within =
    let at : k + (j - k) ≡ j = omega arith in
    ap (has_bit words) (sym at) ∙ sym (bit_later words k (j - k) (omega arith)) ∙ ap (λ x. bit_at x (j - k) == 1) empty ∙ ap (λ x. x == 1) (bit_at-zero (j - k))

pub record Found (words : List ℕ) (k t : ℕ) : Type 0 where
  pub within : k % 64 + t < 64
  pub here : has_bit words (k + t) ≡ true
  pub before : (j : ℕ) → k ≤ j → j < k + t → has_bit words j ≡ false

pub word_found : (words : List ℕ) (k word : ℕ) → word ≡ get_or words (k / 64) 0 / 2 ^ (k % 64) → get_or words (k / 64) 0 < 2 ^ 64
    → word ≢ 0 → Found words k (trailing_zeros w64 word)
word_found words k word is fits some = record {
  within = within;
  here = sym (bit_later words k t within) ∙ ap (λ x. bit_at x t == 1) (sym is) ∙ ap (λ x. x == 1) first.1;
  before = λ j later below.
      let at : k + (j - k) ≡ j = omega arith in
      ap (has_bit words) (sym at) ∙ sym (bit_later words k (j - k) (omega (arith, within))) ∙ ap (λ x. bit_at x (j - k) == 1) (sym is)
      ∙ ap (λ x. x == 1) (first.2 (j - k) (omega arith));
}
  where
    t : ℕ
    t = trailing_zeros w64 word

    small : word < 2 ^ 64
    small = rw is (lt_of_le_of_lt (div-le_self (get_or words (k / 64) 0) (2 ^ (k % 64))) fits)

    first : (trailing_zeros w64 word < 64) × (bit_at word (trailing_zeros w64 word) ≡ 1) × ((i : ℕ) → i < trailing_zeros w64 word → bit_at word i ≡ 0)
    first = bit_at-trailing_zeros w64 word (omega arith) small

    high : bit_at (get_or words (k / 64) 0) (k % 64 + trailing_zeros w64 word) ≡ 1
    high = sym (ap (λ x. x % 2) (shr-shr (get_or words (k / 64) 0) (k % 64) (trailing_zeros w64 word))) ∙ ap (λ x. bit_at x (trailing_zeros w64 word)) (sym is) ∙ first.1

    within : k % 64 + trailing_zeros w64 word < 64
    within = elim (cases_lt (k % 64 + trailing_zeros w64 word) 64) [
      | inl below ↦ below
      | inr past ↦ let none : bit_at (get_or words (k / 64) 0) (k % 64 + trailing_zeros w64 word) ≡ 0 = bit_at_above (get_or words (k / 64) 0) 64 _ fits past in
          absurd (omega (arith, high, none))
    ]

-- the same for the bits that are not set

not_bit : (w i : ℕ) → w < 2 ^ 64 → i < 64 → (bit_at (bit_not w64 w) i == 1) ≡ not (bit_at w i == 1)
not_bit w i fits here = rw (bit_at_not w64 w i fits here) (flip_test (bit_at w i) (bit_at-lt w i))

clear_later : (words : List ℕ) (k i : ℕ) → get_or words (k / 64) 0 < 2 ^ 64 → k % 64 + i < 64
    → (bit_at (bit_not w64 (get_or words (k / 64) 0) / 2 ^ (k % 64)) i == 1) ≡ not (has_bit words (k + i))
clear_later words k i fits within =
    let word : (k + i) / 64 ≡ k / 64 = omega arith in
    let place : (k + i) % 64 ≡ k % 64 + i = omega arith in
    rw (word, place) (ap (λ x. x % 2 == 1) (shr-shr (bit_not w64 (get_or words (k / 64) 0)) (k % 64) i) ∙ not_bit (get_or words (k / 64) 0) (k % 64 + i) fits within)

pub word_set : (words : List ℕ) (k j : ℕ) → get_or words (k / 64) 0 < 2 ^ 64 → bit_not w64 (get_or words (k / 64) 0) / 2 ^ (k % 64) ≡ 0
    → k ≤ j → j < (k / 64 + 1) * 64 → has_bit words j ≡ true
word_set words k j fits empty later within =
    let at : k + (j - k) ≡ j = omega arith in
    ap (has_bit words) (sym at)
    ∙ not_is (has_bit words (k + (j - k))) false (sym (clear_later words k (j - k) fits (omega arith)) ∙ ap (λ x. bit_at x (j - k) == 1) empty ∙ ap (λ x. x == 1) (bit_at-zero (j - k)))

pub record FoundClear (words : List ℕ) (k t : ℕ) : Type 0 where
  pub within : k % 64 + t < 64
  pub here : has_bit words (k + t) ≡ false
  pub before : (j : ℕ) → k ≤ j → j < k + t → has_bit words j ≡ true

pub word_clear_found : (words : List ℕ) (k word : ℕ) → word ≡ bit_not w64 (get_or words (k / 64) 0) / 2 ^ (k % 64) → get_or words (k / 64) 0 < 2 ^ 64
    → word ≢ 0 → FoundClear words k (trailing_zeros w64 word)
word_clear_found words k word is fits some = record {
  within = within;
  here = not_is (has_bit words (k + t)) true (sym (clear_later words k t fits within) ∙ ap (λ x. bit_at x t == 1) (sym is) ∙ ap (λ x. x == 1) first.1);
  before = λ j later below.
      let at : k + (j - k) ≡ j = omega arith in
      ap (has_bit words) (sym at)
      ∙ not_is (has_bit words (k + (j - k))) false (sym (clear_later words k (j - k) fits (omega (arith, within))) ∙ ap (λ x. bit_at x (j - k) == 1) (sym is)
      ∙ ap (λ x. x == 1) (first.2 (j - k) (omega arith)));
}
  where
    t : ℕ
    t = trailing_zeros w64 word

    flipped : ℕ
    flipped = bit_not w64 (get_or words (k / 64) 0)

    flipped_fits : bit_not w64 (get_or words (k / 64) 0) < 2 ^ 64
    flipped_fits = omega (arith, fits)

    small : word < 2 ^ 64
    small = rw is (lt_of_le_of_lt (div-le_self (bit_not w64 (get_or words (k / 64) 0)) (2 ^ (k % 64))) flipped_fits)

    first : (trailing_zeros w64 word < 64) × (bit_at word (trailing_zeros w64 word) ≡ 1) × ((i : ℕ) → i < trailing_zeros w64 word → bit_at word i ≡ 0)
    first = bit_at-trailing_zeros w64 word (omega arith) small

    high : bit_at (bit_not w64 (get_or words (k / 64) 0)) (k % 64 + trailing_zeros w64 word) ≡ 1
    high = sym (ap (λ x. x % 2) (shr-shr (bit_not w64 (get_or words (k / 64) 0)) (k % 64) (trailing_zeros w64 word))) ∙ ap (λ x. bit_at x (trailing_zeros w64 word)) (sym is) ∙ first.1

    within : k % 64 + trailing_zeros w64 word < 64
    within = elim (cases_lt (k % 64 + trailing_zeros w64 word) 64) [
      | inl below ↦ below
      | inr past ↦ let none : bit_at (bit_not w64 (get_or words (k / 64) 0)) (k % 64 + trailing_zeros w64 word) ≡ 0 = bit_at_above (bit_not w64 (get_or words (k / 64) 0)) 64 _ flipped_fits past in
          absurd (omega (arith, high, none))
    ]

pub clear_past : (size : ℕ) (words : List ℕ) → IsPadded size words → (k : ℕ) → size ≤ k → has_bit words k ≡ false
clear_past size words padded k past = elim (cases_Bool (has_bit words k)) [
  | inl set_there ↦ absurd (omega (arith, padded.clear k set_there))
  | inr clear_there ↦ clear_there
]

-- the run of indices ends before the first bit that is not set, or with the size

pub run_flag : (size : ℕ) (words : List ℕ) (set : List Bool) → IsPadded size words → flags_of size words ≡ set → (j : ℕ) → flag set j ≡ has_bit words j
run_flag size words set padded is j = sym (ap (λ s. flag s j) is) ∙ flag-flags_of size words padded j

pub run_to : (size from : ℕ) (words : List ℕ) (set : List Bool) → IsPadded size words → flags_of size words ≡ set → flag set from ≡ true
    → (end : ℕ) → IsFirstClear words from end → (from < end) × IsRun set from (end - 1)
run_to size from words set padded is here end clear =
    let bit : has_bit words from ≡ true = sym (run_flag size words set padded is from) ∙ here in
    let apart : from < end = elim (cases_lt from end) [
      | inl below ↦ below
      | inr past ↦
          let same : end ≡ from = omega (arith, clear.later) in
          absurd (true≢false (sym bit ∙ ap (has_bit words) (sym same) ∙ clear.here))
    ] in
    let last_set : has_bit words (end - 1) ≡ true = clear.least (end - 1) (omega arith) (omega arith) in (
      apart,
      record {
        ordered = omega arith;
        known = omega (arith, padded.clear (end - 1) last_set, length-flags_of size words, ap length is);
        all = λ j later within. run_flag size words set padded is j ∙ clear.least j later (omega arith);
        ends = run_flag size words set padded is (end - 1 + 1) ∙ (let at : end - 1 + 1 ≡ end = omega arith in ap (has_bit words) at ∙ clear.here);
      },
    )

pub run_out : (size from : ℕ) (words : List ℕ) (set : List Bool) → IsPadded size words → flags_of size words ≡ set → flag set from ≡ true
    → ((j : ℕ) → from ≤ j → j < 64 * length words → has_bit words j ≡ true) → (from < size) × IsRun set from (size - 1)
run_out size from words set padded is here rest =
    let bit : has_bit words from ≡ true = sym (run_flag size words set padded is from) ∙ here in
    let low : from < size = padded.clear from bit in (
      low,
      record {
        ordered = omega arith;
        known = omega (arith, length-flags_of size words, ap length is);
        all = λ j later within. run_flag size words set padded is j ∙ rest j later (omega (arith, padded.room));
        ends = run_flag size words set padded is (size - 1 + 1) ∙ clear_past size words padded (size - 1 + 1) (omega arith);
      },
    )

-- words without a bit, filled from the lowest index to the last below the size
pub zero_bit : (n k : ℕ) → has_bit (replicate n 0) k ≡ false
zero_bit n k = ap (λ x. bit_at x (k % 64) == 1) (zero_word n (k / 64)) ∙ ap (λ x. x == 1) (bit_at-zero (k % 64))
  where
    zero_word : (n i : ℕ) → ◌≡◌ {A = ℕ} (get_or (replicate n 0) i 0) 0
    zero_word zero i = refl
    zero_word (suc n) zero = refl
    zero_word (suc n) (suc i) = zero_word n i

pub padded_full : (size : ℕ) (words : List ℕ) → size ≤ INDEX_LIMIT → length words ≡ (size + 63) / 64 → ((k : ℕ) → has_bit words k ≡ nat_lt k size) → IsPadded size words
padded_full size words small len bits = record {
  small = small;
  room = omega arith;
  few = omega arith;
  clear = λ k there. ltb-true k size (sym (bits k) ∙ there);
}

pub filled : (size k : ℕ) → 0 < size → (false || between 0 (size - 1) k) ≡ nat_lt k size
filled size k some = grind (arith, nat_tests)

pub whole : (size : ℕ) (words : List ℕ) → IsPadded size words → ((k : ℕ) → has_bit words k ≡ nat_lt k size) → IsWhole (flags_of size words) size
whole size words padded bits = record {
  sized = length-flags_of size words;
  all = λ k. flag-flags_of size words padded k ∙ bits k;
}

pub past_words : (words : List ℕ) (k : ℕ) → length words ≤ k / 64 → has_bit words k ≡ false
past_words words k past = ap (λ x. bit_at x (k % 64) == 1) (get_or_past words (k / 64) 0 past) ∙ ap (λ x. x == 1) (bit_at-zero (k % 64))

pub nothing_below : (size k : ℕ) → size ≤ 0 → false ≡ nat_lt k size
nothing_below size k none = grind (arith, nat_tests)

-- the next index of the set is the next bit of the words
pub next_of : (size from : ℕ) (words : List ℕ) (set : List Bool) → IsPadded size words → flags_of size words ≡ set → (o : Option ℕ)
    → MatchOption o ((j : ℕ) → from ≤ j → has_bit words j ≡ false) (λ k. IsFirstBit words from k)
    → MatchOption o (HasNoneFrom set from) (λ k. IsNext set from k)
next_of size from words set padded is None none =
    record { none = λ j later. sym (ap (λ s. flag s j) is) ∙ flag-flags_of size words padded j ∙ none j later }
next_of size from words set padded is (Some k) first = record {
  later = first.later;
  known = omega (arith, padded.clear k first.here, length-flags_of size words, ap length is);
  here = sym (ap (λ s. flag s k) is) ∙ flag-flags_of size words padded k ∙ first.here;
  least = λ j later below. sym (ap (λ s. flag s j) is) ∙ flag-flags_of size words padded j ∙ first.least j later below;
}
