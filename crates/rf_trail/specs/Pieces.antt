-- What the entries of a trail took out, in pieces that were there as a whole. The newest stand first here, and last in
-- the vectors of the code.
use Rattle.std.specs.Prelude.{◌≡◌, ℕ, ◌≤◌, ◌-◌, ◌++◌, Bool, true, List, [], ◌∷◌, length, map, reverse, drop}
use Rattle.rf_trail.specs.declared.entry.Entry.{Entry}
use Rattle.rf_trail.specs.declared.piece.Piece.{Piece}
use Rattle.rf_trail.specs.declared.step.Step.{Step}
use Rattle.rf_domain.specs.Indices.{between}
use Rattle.rf_domain.specs.Sets.{sizes, has, full, without}
use Rattle.rf_trail.specs.Trace.{has_of}

abbrev pub entries_of : List Step → List Entry
entries_of steps = map (λ s. s.entry) steps

-- the full sets without the pieces
abbrev pub left_of : List ℕ → List Piece → ℕ → ℕ → Bool
left_of counts [] = full counts
left_of counts (p ∷ ps) = without (left_of counts ps) p.carrier (between p.lo p.hi)

-- each piece was there as a whole when it was taken out
abbrev pub AreFresh : List ℕ → List Piece → Type 0
AreFresh counts [] = Unit {0}
AreFresh counts (p ∷ ps) = (p.lo ≤ p.hi) × ((k : ℕ) → between p.lo p.hi k ≡ true → left_of counts ps p.carrier k ≡ true) × AreFresh counts ps

-- the sets are the full ones without the pieces, which are in the order of the code
pub record ArePieces (sets : List (List Bool)) (pieces : List Piece) : Type 0 where
  pub left : has sets ≡ left_of (sizes sets) (reverse pieces)
  pub fresh : AreFresh (sizes sets) (reverse pieces)

-- the second pieces are the first and further ones, in the order of the code
abbrev pub Gains : List Piece → List Piece → Type 0
Gains before now = (more : List Piece) × (reverse now ≡ more ++ reverse before)

-- after each step, the pieces so far leave what the entries so far leave
abbrev pub Agree : List ℕ → List Step → List Piece → Type 0
Agree counts [] pieces = pieces ≡ []
Agree counts (s ∷ ss) pieces = (s.pieces ≤ length pieces)
    × (left_of counts pieces ≡ has_of counts (entries_of (s ∷ ss)))
    × Agree counts ss (drop (length pieces - s.pieces) pieces)

-- the sets are what the steps leave, and the pieces are those that the steps took out
pub record StandsFor (sets : List (List Bool)) (steps : List Step) (pieces : List Piece) : Type 0 where
  pub made : ArePieces sets pieces
  pub agree : Agree (sizes sets) (reverse steps) (reverse pieces)
