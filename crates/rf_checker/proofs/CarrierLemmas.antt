-- The names of a log as carriers of a show.
use Rattle.std.proofs.Common.{◌≡◌, ◌≤◌, ℕ, List, [], ◌∷◌, Bool, length, map, get_or, arith, refl, None, slice_index}
use Rattle.std.specs.List.{All, position, position_or_len}
use Rattle.std.proofs.lemmas.Bool.Decides.{nat_tests}
use Rattle.rf_log.specs.declared.hint.Hint.{Hint}
use Rattle.rf_log.specs.declared.hint.Hint.TheVariants.{Earlier, Ban, Rule}
use Rattle.rf_log.specs.declared.line.LogLine.{LogLine}
use Rattle.rf_log.specs.declared.line.LogLine.TheVariants.{Nogood, Branch, Up}
use Rattle.rf_log.specs.LogText.{LogData, IsHintBelow, IsLineBelow}
use Rattle.rf_show.specs.Show.{ShowData}
use Rattle.rf_show.specs.declared.carrier.Carrier.{Carrier}
use Rattle.rf_checker.specs.Carriers.{hint_with, line_with, lines_over, place_at, places_named}
use Rattle.rf_checker.specs.Lines.{HasTarget, HasTargets}
use Rattle.std.proofs.lemmas.List.{length-map}
use Rattle.std.proofs.lemmas.List.Elements.{All-map}

first_within : (p : Carrier → Bool) (xs : List Carrier) → position_or_len p xs ≤ length xs
first_within p [] = omega arith
first_within p (x ∷ xs) = grind (arith, nat_tests, first_within p xs)

pub no_place : (p : Carrier → Bool) (xs : List Carrier) → None ≡ position p xs → length xs ≡ position_or_len p xs
no_place p xs h = grind (arith, nat_tests, first_within p xs)

pub four_mapped : (f : ℕ → ℕ) (xs : List ℕ) → length xs ≡ 4 → f (slice_index xs 0) ∷ f (slice_index xs 1) ∷ f (slice_index xs 2) ∷ f (slice_index xs 3) ∷ [] ≡ map f xs
four_mapped f [] h = absurd (omega arith)
four_mapped f (a ∷ []) h = absurd (omega arith)
four_mapped f (a ∷ b ∷ []) h = absurd (omega arith)
four_mapped f (a ∷ b ∷ c ∷ []) h = absurd (omega arith)
four_mapped f (a ∷ b ∷ c ∷ d ∷ []) h = refl
four_mapped f (a ∷ b ∷ c ∷ d ∷ e ∷ xs) h = absurd (omega arith)

hint_target : (n : ℕ) (at : ℕ → ℕ) (hint : Hint) → IsHintBelow n hint → HasTarget (hint_with at hint)
hint_target n at (Earlier line) below = tt
hint_target n at (Ban carrier lo hi) below = tt
hint_target n at (Rule kind roles target lo hi) below = (below.place, simp length-map below.full)

line_targets : (n : ℕ) (at : ℕ → ℕ) (line : LogLine) → IsLineBelow n line → HasTargets (line_with at line)
line_targets n at (Nogood conds hints) below = All-map HasTarget (hint_with at) hints (λ k d low. hint_target n at (get_or hints k d) (below.1 k d low))
line_targets n at (Branch cut carrier index) below = tt
line_targets n at (Up line) below = tt

-- the targets of the lines of a log are roles also where its carriers are changed
pub lines_targets : (n : ℕ) (at : ℕ → ℕ) (lines : List LogLine) → All (IsLineBelow n) lines → All HasTargets (map (line_with at) lines)
lines_targets n at lines below = All-map HasTargets (line_with at) lines (λ k d low. line_targets n at (get_or lines k d) (below k d low))

-- the lines that are walked are those of the log over the show
pub walked_lines : (show : ShowData) (log : LogData) (carriers : List Carrier) (names : List (List ℕ)) (places front : List ℕ) (lines all out : List LogLine)
    → carriers ≡ show.carriers → names ≡ log.names → places ≡ places_named carriers names → front ≡ places → lines ≡ log.lines
    → all ≡ map (line_with (place_at front (length carriers))) lines → out ≡ all → out ≡ lines_over show log
walked_lines show log carriers names places front lines all out c n p f l a o = rw (o, a, l, f, p, n, c) refl
