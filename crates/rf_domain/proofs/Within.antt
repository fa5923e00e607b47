-- Whether one set's indices are all in another.
use Rattle.std.proofs.Common.{◌≡◌, ◌≢◌, ℕ, ◌+◌, ◌*◌, ◌/◌, ◌%◌, ◌^◌, ◌<◌, List, [], Bool, true, not, ◌&&◌, length, get_or, sym, ◌∙◌, ap, arith, w64, ◌==◌, ◌↔◌, true≢false}
use Rattle.std.specs.Int.{bit_at, trailing_zeros}
use Rattle.std.proofs.lemmas.Bool.{and_parts, not-true}
use Rattle.std.proofs.lemmas.Nat.Bits.{bit_at-trailing_zeros}
use Rattle.rf_domain.specs.Indices.{flag, has_bit, flags_of, IsPadded, HasBitsWithin, IsWithin}
use Rattle.std.proofs.lemmas.List.{length-map}
use Rattle.rf_domain.specs.Sets.{size_of, sizes, AreWithin}
use Rattle.rf_domain.proofs.Bits.{run_flag}
use Rattle.rf_domain.proofs.SetsLaws.{size_get}

-- a word has a bit that the other lacks
pub word_apart : (words others : List ℕ) (i lacks : ℕ) → lacks < 2 ^ 64 → lacks ≢ 0
    → ((j : ℕ) → j < 64 → (bit_at lacks j == 1) ≡ ((bit_at (get_or words i 0) j == 1) && not (bit_at (get_or others i 0) j == 1)))
    → HasBitsWithin words others → ⊥
word_apart words others i lacks fits some bits within =
    let first = bit_at-trailing_zeros w64 lacks (omega arith) fits in
    let t = trailing_zeros w64 lacks in
    let small : t < 64 = first.0 in
    let word : (64 * i + t) / 64 ≡ i = omega arith in
    let place : (64 * i + t) % 64 ≡ t = omega arith in
    let both = and_parts (bit_at (get_or words i 0) t == 1) _ (sym (bits t small) ∙ ap (λ x. x == 1) first.1) in
    let here : has_bit words (64 * i + t) ≡ true = rw (word, place) both.0 in
    let there : (bit_at (get_or others i 0) t == 1) ≡ true = rw (word, place) at (within.each (64 * i + t) here) in
    absurd (true≢false (sym there ∙ not-true _ both.1))

-- sets of one size have as many words
pub same_room : (size : ℕ) (words others : List ℕ) → IsPadded size words → IsPadded size others → length words ≡ length others
same_room size words others padded other_padded = omega (arith, padded.room, padded.few, other_padded.room, other_padded.few)

-- what holds of the words' bits holds of the sets' flags
pub within_sets : (size other_size : ℕ) (words others : List ℕ) (set other : List Bool)
    → IsPadded size words → flags_of size words ≡ set → IsPadded other_size others → flags_of other_size others ≡ other
    → (b : Bool) → (b ≡ true) ↔ HasBitsWithin words others → (b ≡ true) ↔ IsWithin set other
within_sets size other_size words others set other padded is other_padded other_is b iff = (
  λ yes. record {
    each = λ k here. run_flag other_size others other other_padded other_is k ∙ (iff.0 yes).each k (sym (run_flag size words set padded is k) ∙ here);
  },
  λ within. iff.1 (record {
    each = λ k here. sym (run_flag other_size others other other_padded other_is k) ∙ within.each k (run_flag size words set padded is k ∙ here);
  }),
)

-- one carrier of both, as they are read

pub known_other : (sets others : List (List Bool)) (c : ℕ) → sizes sets ≡ sizes others → c < length sets → c < length others
known_other sets others c same known = omega (arith, length-map sets length, length-map others length, ap length same)

pub same_size : (sets others : List (List Bool)) (c : ℕ) (set other : List Bool) → sizes sets ≡ sizes others
    → set ≡ get_or sets c [] → other ≡ get_or others c [] → length set ≡ length other
same_size sets others c set other same is other_is =
    ap length is ∙ sym (size_get sets c) ∙ ap (λ ns. size_of ns c) same ∙ size_get others c ∙ sym (ap length other_is)

pub one_within : (sets others : List (List Bool)) (c : ℕ) (set other : List Bool) → AreWithin sets others
    → set ≡ get_or sets c [] → other ≡ get_or others c [] → IsWithin set other
one_within sets others c set other within is other_is = record {
  each = λ k here. ap (λ s. flag s k) other_is ∙ within.each c k (ap (λ s. flag s k) (sym is) ∙ here);
}
