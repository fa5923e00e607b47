-- The branchings of the lines that are read back are honest where those that were written are.
use Rattle.std.proofs.Common.{◌≡◌, ◌∙◌, ℕ, ◌+◌, ◌≤◌, List, [], ◌∷◌, map, refl, ap, sym, subst, Some}
use Rattle.std.specs.List.{All, count_by}
use Rattle.rf_log.specs.declared.line.LogLine.{LogLine}
use Rattle.rf_log.specs.declared.line.LogLine.TheVariants.{Nogood, Branch, Up}
use Rattle.rf_log.specs.Case.{Case}
use Rattle.rf_log.specs.Solved.{IsHonestFrom, IsHonestLine, IsStarted, is_nogood, is_refused}
use Rattle.rf_log.specs.Walk.{Tree, is_branch, tree_after, verdict_of}
use Rattle.rf_saved.proofs.ListLemmas.{count_mapped}
use Rattle.rf_saved.proofs.Trimmed.{LineAims, branch_trimmed, trimmed, verdict_trimmed, tree_trimmed}

line_on : (case : Case) (tree : Tree) (line : LogLine) → IsHonestLine case tree line → IsHonestLine case tree (trimmed line)
line_on case tree (Nogood conds hints) honest = tt
line_on case tree (Branch cut carrier at) honest = honest
line_on case tree (Up line) honest = tt

line_back : (case : Case) (tree : Tree) (line : LogLine) → IsHonestLine case tree (trimmed line) → IsHonestLine case tree line
line_back case tree (Nogood conds hints) honest = tt
line_back case tree (Branch cut carrier at) honest = honest
line_back case tree (Up line) honest = tt

honest_on : (case : Case) (tree : Tree) (lines : List LogLine) → IsHonestFrom case tree lines → IsHonestFrom case tree (map trimmed lines)
honest_on case tree [] honest = tt
honest_on case tree (line ∷ lines) honest =
    (line_on case tree line honest.0, subst (λ (t : Tree). IsHonestFrom case t (map trimmed lines)) (sym (tree_trimmed tree line)) (honest_on case (tree_after tree line) lines honest.1))

honest_back : (case : Case) (tree : Tree) (lines : List LogLine) → IsHonestFrom case tree (map trimmed lines) → IsHonestFrom case tree lines
honest_back case tree [] honest = tt
honest_back case tree (line ∷ lines) honest =
    (line_back case tree line honest.0, honest_back case (tree_after tree line) lines (subst (λ (t : Tree). IsHonestFrom case t (map trimmed lines)) (tree_trimmed tree line) honest.1))

nogood_trimmed : (line : LogLine) → is_nogood (trimmed line) ≡ is_nogood line
nogood_trimmed (Nogood conds hints) = refl
nogood_trimmed (Branch cut carrier at) = refl
nogood_trimmed (Up line) = refl

-- lines that are the same but for roles beyond those of their kinds
pub started_same : (case : Case) (n : ℕ) (lines others : List LogLine) → map trimmed others ≡ map trimmed lines → All LineAims lines → All LineAims others
    → IsStarted case n lines → IsStarted case n others
started_same case n lines others same aims other_aims started =
    let branches : count_by is_branch others ≡ count_by is_branch lines =
    sym (count_mapped is_branch trimmed others branch_trimmed) ∙ ap (count_by is_branch) same ∙ count_mapped is_branch trimmed lines branch_trimmed in
    let nogoods : count_by is_nogood others ≡ count_by is_nogood lines =
    sym (count_mapped is_nogood trimmed others nogood_trimmed) ∙ ap (count_by is_nogood) same ∙ count_mapped is_nogood trimmed lines nogood_trimmed in
    record {
      valid = ap is_refused (sym (verdict_trimmed case others other_aims) ∙ ap (verdict_of case) same ∙ verdict_trimmed case lines aims) ∙ started.valid;
      honest = honest_back case (Some []) others (subst (λ (ls : List LogLine). IsHonestFrom case (Some []) ls) (sym same) (honest_on case (Some []) lines started.honest));
      within = subst (λ (k : ℕ). k ≤ n) (sym branches) started.within;
      one_each = subst (λ (k : ℕ). k ≤ count_by is_branch others + 1) (sym nogoods) (subst (λ (k : ℕ). count_by is_nogood lines ≤ k + 1) (sym branches) started.one_each);
    }
