-- What is written one after another.
use Rattle.std.proofs.Common.{◌≡◌, ◌++◌, ℕ, List, [], ◌∷◌, append_assoc, codes}
use Rattle.std.proofs.lemmas.List.Concat.{flat_map-append}

pub ruleset pieces = (flat_map-append, append_assoc)

-- a nogood line that is written in pieces
pub nogood_in_pieces : (old head first middle second new conds hints : List ℕ)
    → head ≡ old ++ codes "n" → first ≡ head ++ conds → middle ≡ first ++ codes " ;" → second ≡ middle ++ hints → new ≡ second ++ 10 ∷ []
    → new ≡ old ++ (codes "n" ++ (conds ++ (codes " ;" ++ (hints ++ 10 ∷ []))))
nogood_in_pieces old head first middle second new conds hints a b c d e = rw (e, d, c, b, a) (simp append_assoc)
