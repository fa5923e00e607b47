use Rattle.std.proofs.Common.{◌≡◌, ℕ, List, ◌++◌, length, drop, replicate, refl}
use Rattle.std.proofs.lemmas.List.{drop-replicate}
use Rattle.rf_base.specs.Padded.{padded}

-- a word, and what is left of the zeros behind it
pub padded_is : (width : ℕ) (word zeros : List ℕ) → zeros ≡ replicate width 0 → padded width word ≡ word ++ drop (length word) zeros
unfolding padded
padded_is width word zeros e = rw (e, drop-replicate {X = ℕ} (length word) width 0) refl
