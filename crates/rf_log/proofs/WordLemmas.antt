-- Where the first word of a line and the first line of a text end.
use Rattle.std.proofs.Common.{◌≡◌, ◌+◌, ◌<◌, ◌≤◌, ℕ, suc, List, [], ◌∷◌, Bool, true, false, length, take, drop, arith, refl, Some, None}
use Rattle.std.proofs.lemmas.Bool.Decides.{nat_tests}
use Rattle.std.specs.List.{position, position_or_len}
use Rattle.rf_log.specs.Words.{is_feed, lines_in}

-- the first feed stands there
at_first : (xs : List ℕ) → position_or_len is_feed xs < length xs → lines_in xs ≡ take (position_or_len is_feed xs) xs ∷ lines_in (drop (suc (position_or_len is_feed xs)) xs)
at_first [] h = absurd (omega arith)
at_first (x ∷ xs) h =
    let P : Bool → Type 0 = λ b. is_feed x ≡ b → lines_in (x ∷ xs) ≡ take (position_or_len is_feed (x ∷ xs)) (x ∷ xs) ∷ lines_in (drop (suc (position_or_len is_feed (x ∷ xs))) (x ∷ xs)) in
    let all : (b : Bool) → P b = λ b. elim b as P [
      | true ↦ λ e. rw e refl
      | false ↦ λ e.
          let less : position_or_len is_feed xs < length xs = let next = rw e at h in omega (arith, next) in
          let rest = at_first xs less in
          let one : 1 + position_or_len is_feed xs ≡ suc (position_or_len is_feed xs) = omega arith in
          rw (e, one, rest) refl
    ] in all (is_feed x) refl

pub first_line : (xs : List ℕ) (i : ℕ) → position is_feed xs ≡ Some i → lines_in xs ≡ take i xs ∷ lines_in (drop (i + 1) xs)
first_line xs i h = grind (arith, nat_tests, at_first xs)

only_feedless : (xs : List ℕ) → length xs ≤ position_or_len is_feed xs → 0 < length xs → lines_in xs ≡ xs ∷ []
only_feedless [] h some = absurd (omega arith)
only_feedless (x ∷ []) h some = grind (arith, nat_tests)
only_feedless (x ∷ y ∷ xs) h some =
    let P : Bool → Type 0 = λ b. is_feed x ≡ b → lines_in (x ∷ y ∷ xs) ≡ (x ∷ y ∷ xs) ∷ [] in
    let all : (b : Bool) → P b = λ b. elim b as P [
      | true ↦ λ e. absurd (let next = rw e at h in omega (arith, next))
      | false ↦ λ e.
          let more : length (y ∷ xs) ≤ position_or_len is_feed (y ∷ xs) = let next = rw e at h in omega (arith, next) in
          let rest = only_feedless (y ∷ xs) more (omega arith) in
          rw (e, rest) refl
    ] in all (is_feed x) refl

pub only_line : (xs : List ℕ) → position is_feed xs ≡ None → 0 < length xs → lines_in xs ≡ xs ∷ []
only_line xs h some = grind (arith, nat_tests, only_feedless xs)
