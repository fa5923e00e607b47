-- Lines of words.
use Rattle.std.proofs.Common.{◌≡◌, ◌++◌, ◌∙◌, ℕ, List, [], ◌∷◌, append_assoc}
use Rattle.std.proofs.lemmas.List.Concat.{flat_map-append}
use Rattle.rf_base.specs.Lines.{line_of, spaced}

-- a line that is written in two pieces
pub line_in_pieces : (old next new word : List ℕ) (names words : List (List ℕ))
    → next ≡ old ++ (word ++ spaced names) → new ≡ next ++ (spaced words ++ 10 ∷ []) → new ≡ old ++ line_of (word ∷ (names ++ words))
line_in_pieces old next new word names words a b = rw (b, a) (simp (flat_map-append, append_assoc))

-- what is written one after another
pub ruleset pieces = (flat_map-append, append_assoc)
