-- What the checker says of lines doesn't depend on a rule's roles beyond those of its kind.
use Rattle.std.proofs.Common.{◌≡◌, ◌∙◌, ℕ, zero, suc, ◌+◌, ◌<◌, List, [], ◌∷◌, ◌++◌, Bool, ◌&&◌, length, map, take, refl, ap, sym, arith, Option, Some, None}
use Rattle.std.specs.Prelude.{slice_index, is_some, if◌then◌else◌, nat_lt}
use Rattle.std.specs.List.{All, list_all}
use Rattle.std.proofs.lemmas.List.{get_or-take, take-take, map-append, length-map}
use Rattle.std.proofs.lemmas.List.Elements.{All-cons, All-head, All-map, All-nil, All-tail, All-weaker}
use Rattle.rf_terms.specs.Kinds.{roles_of}
use Rattle.rf_log.specs.declared.cond.Cond.{Cond}
use Rattle.rf_log.specs.declared.hint.Hint.{Hint}
use Rattle.rf_log.specs.declared.hint.Hint.TheVariants.{Earlier, Ban, Rule}
use Rattle.rf_log.specs.declared.line.LogLine.{LogLine}
use Rattle.rf_log.specs.declared.line.LogLine.TheVariants.{Nogood, Branch, Up}
use Rattle.rf_log.specs.declared.verdict.Cause.{Cause}
use Rattle.rf_log.specs.declared.verdict.Cause.TheVariants as cause
use Rattle.rf_log.specs.declared.verdict.Verdict.{Verdict}
use Rattle.rf_log.specs.declared.verdict.Verdict.TheVariants as verdict
use Rattle.rf_log.specs.Case.{Case}
use Rattle.rf_log.specs.Box.{Box, between, box_of, without}
use Rattle.rf_log.specs.Hints.{after_hints_of, by_line, conds_in, effect_of, is_ruled_out, is_dead_after, nogood_at}
use Rattle.rf_log.specs.Walk.{Tree, all_hold, cause_of, ends_empty, finds_line, finds_lines, fits, fits_cond, fits_hint, fits_indices, follows_path, hints_work, is_branch, knows_cond, knows_hint}
use Rattle.rf_log.specs.Walk.{knows_names, tree_after, unless, verdict_at_end, verdict_of, walk}
use Rattle.rf_saved.proofs.ListLemmas.{all_mapped, count_mapped}

-- a rule without the roles beyond its kind's

abbrev pub trimmed_hint : Hint → Hint
trimmed_hint (Earlier line) = Earlier line
trimmed_hint (Ban carrier lo hi) = Ban carrier lo hi
trimmed_hint (Rule kind roles target lo hi) = Rule kind (take (roles_of kind) roles) target lo hi

abbrev pub trimmed : LogLine → LogLine
trimmed (Nogood conds hints) = Nogood conds (map trimmed_hint hints)
trimmed (Branch cut carrier at) = Branch cut carrier at
trimmed (Up line) = Up line

-- the target of a rule is one of its kind's roles

abbrev pub Aims : Hint → Type 0
Aims (Earlier line) = Unit {0}
Aims (Ban carrier lo hi) = Unit {0}
Aims (Rule kind roles target lo hi) = target < roles_of kind

abbrev pub LineAims : LogLine → Type 0
LineAims (Nogood conds hints) = All Aims hints
LineAims (Branch cut carrier at) = Unit {0}
LineAims (Up line) = Unit {0}

trimmed_twice : (n : ℕ) (roles : List ℕ) → take n (take n roles) ≡ take n roles
trimmed_twice n roles = take-take n n roles (omega arith)

-- ---- the lines that are done

conds_trimmed : (line : LogLine) → conds_in (trimmed line) ≡ conds_in line
conds_trimmed (Nogood conds hints) = refl
conds_trimmed (Branch cut carrier at) = refl
conds_trimmed (Up line) = refl

nogood_trimmed : (lines : List LogLine) (n : ℕ) → nogood_at (map trimmed lines) n ≡ nogood_at lines n
nogood_trimmed [] zero = refl
nogood_trimmed [] (suc n) = refl
nogood_trimmed (line ∷ lines) zero = refl
nogood_trimmed (line ∷ lines) (suc zero) = conds_trimmed line
nogood_trimmed (line ∷ lines) (suc (suc n)) = nogood_trimmed lines (suc n)

pub branch_trimmed : (line : LogLine) → is_branch (trimmed line) ≡ is_branch line
branch_trimmed (Nogood conds hints) = refl
branch_trimmed (Branch cut carrier at) = refl
branch_trimmed (Up line) = refl

-- ---- a hint

module _ (case : Case) (done : List LogLine) where
  knows_trimmed : (hint : Hint) → Aims hint → knows_hint case (trimmed_hint hint) ≡ knows_hint case hint
  knows_trimmed (Earlier line) aims = refl
  knows_trimmed (Ban carrier lo hi) aims = refl
  knows_trimmed (Rule kind roles target lo hi) aims = ap (λ rs. list_all (λ c. nat_lt c (length case.carriers)) rs) (trimmed_twice (roles_of kind) roles)

  fits_trimmed : (hint : Hint) → Aims hint → fits_hint case (trimmed_hint hint) ≡ fits_hint case hint
  fits_trimmed (Earlier line) aims = refl
  fits_trimmed (Ban carrier lo hi) aims = refl
  fits_trimmed (Rule kind roles target lo hi) aims = ap (λ c. fits case c lo hi) (get_or-take (roles_of kind) roles target 0 aims)

  finds_trimmed : (hint : Hint) → Aims hint → finds_line (map trimmed done) (trimmed_hint hint) ≡ finds_line done hint
  finds_trimmed (Earlier line) aims = ap is_some (nogood_trimmed done line)
  finds_trimmed (Ban carrier lo hi) aims = refl
  finds_trimmed (Rule kind roles target lo hi) aims = refl

  effect_trimmed : (box : Box) (hint : Hint) → Aims hint
      → effect_of case (nogood_at (map trimmed done)) box (trimmed_hint hint) ≡ effect_of case (nogood_at done) box hint
  effect_trimmed box (Earlier line) aims = ap (by_line case box) (nogood_trimmed done line)
  effect_trimmed box (Ban carrier lo hi) aims = refl
  effect_trimmed box (Rule kind roles target lo hi) aims =
      ap (λ (rs : List ℕ). removed rs (slice_index (take (roles_of kind) roles) target)) (trimmed_twice (roles_of kind) roles)
      ∙ ap (λ (c : ℕ). removed (take (roles_of kind) roles) c) (get_or-take (roles_of kind) roles target 0 aims)
    where
      removed : List ℕ → ℕ → Option Box
      removed rs c = if is_ruled_out case box kind rs c lo hi then Some (without box c (between lo hi)) else None

  after_more : (o : Option Box) (hints others : List Hint)
      → ((box : Box) → after_hints_of case (nogood_at (map trimmed done)) box others ≡ after_hints_of case (nogood_at done) box hints)
      → (elim o as (λ _. Option Box) [ None ↦ None | Some next ↦ after_hints_of case (nogood_at (map trimmed done)) next others ])
      ≡ (elim o as (λ _. Option Box) [ None ↦ None | Some next ↦ after_hints_of case (nogood_at done) next hints ])
  after_more None hints others same = refl
  after_more (Some box) hints others same = same box

  after_trimmed : (hints : List Hint) (box : Box) → All Aims hints
      → after_hints_of case (nogood_at (map trimmed done)) box (map trimmed_hint hints) ≡ after_hints_of case (nogood_at done) box hints
  after_trimmed [] box aims = refl
  after_trimmed (hint ∷ hints) box aims =
      ap (λ (o : Option Box). elim o as (λ _. Option Box) [ None ↦ None | Some next ↦ after_hints_of case (nogood_at (map trimmed done)) next (map trimmed_hint hints) ])
      (effect_trimmed box hint (All-head Aims hint hints aims))
      ∙ after_more (effect_of case (nogood_at done) box hint) hints (map trimmed_hint hints) (λ b. after_trimmed hints b (All-tail Aims hint hints aims))

  -- ---- a line

  line_knows : (line : LogLine) → LineAims line → knows_names case (trimmed line) ≡ knows_names case line
  line_knows (Nogood conds hints) aims =
      ap (λ b. list_all (knows_cond case) conds && b) (all_mapped (knows_hint case) (knows_hint case) trimmed_hint Aims hints knows_trimmed aims)
  line_knows (Branch cut carrier at) aims = refl
  line_knows (Up line) aims = refl

  line_fits : (line : LogLine) → LineAims line → fits_indices case (trimmed line) ≡ fits_indices case line
  line_fits (Nogood conds hints) aims =
      ap (λ b. list_all (fits_cond case) conds && b) (all_mapped (fits_hint case) (fits_hint case) trimmed_hint Aims hints fits_trimmed aims)
  line_fits (Branch cut carrier at) aims = refl
  line_fits (Up line) aims = refl

  line_finds : (line : LogLine) → LineAims line → finds_lines (map trimmed done) (trimmed line) ≡ finds_lines done line
  line_finds (Nogood conds hints) aims = all_mapped (finds_line (map trimmed done)) (finds_line done) trimmed_hint Aims hints finds_trimmed aims
  line_finds (Branch cut carrier at) aims = refl
  line_finds (Up line) aims = ap is_some (nogood_trimmed done line)

  line_works : (line : LogLine) → LineAims line → hints_work case (map trimmed done) (trimmed line) ≡ hints_work case done line
  line_works (Nogood conds hints) aims = ap is_some (after_trimmed hints (box_of case conds) aims)
  line_works (Branch cut carrier at) aims = refl
  line_works (Up line) aims = refl

  line_ends : (line : LogLine) → LineAims line → ends_empty case (map trimmed done) (trimmed line) ≡ ends_empty case done line
  line_ends (Nogood conds hints) aims = ap (is_dead_after case) (after_trimmed hints (box_of case conds) aims)
  line_ends (Branch cut carrier at) aims = refl
  line_ends (Up line) aims = refl

  line_follows : (path : List Cond) (line : LogLine) → follows_path case (map trimmed done) path (trimmed line) ≡ follows_path case done path line
  line_follows path (Nogood conds hints) = refl
  line_follows path (Branch cut carrier at) = refl
  line_follows path (Up line) = ap (all_hold case (box_of case path)) (nogood_trimmed done line)

  same_cause : (a b c d e f g h i j k l : Bool) → a ≡ g → b ≡ h → c ≡ i → d ≡ j → e ≡ k → f ≡ l
      → unless a cause.Name (unless b cause.Index (unless c cause.Line (unless d cause.Hint (unless e cause.Empty (unless f cause.Path None)))))
      ≡ unless g cause.Name (unless h cause.Index (unless i cause.Line (unless j cause.Hint (unless k cause.Empty (unless l cause.Path None)))))
  same_cause a b c d e f g h i j k l ha hb hc hd he hf = cc

  cause_trimmed : (tree : Tree) (line : LogLine) → LineAims line → cause_of case (map trimmed done) tree (trimmed line) ≡ cause_of case done tree line
  cause_trimmed None line aims = refl
  cause_trimmed (Some path) line aims =
      same_cause _ _ _ _ _ _ _ _ _ _ _ _ (line_knows line aims) (line_fits line aims) (line_finds line aims) (line_works line aims) (line_ends line aims) (line_follows path line)

-- ---- the walk

pub tree_trimmed : (tree : Tree) (line : LogLine) → tree_after tree (trimmed line) ≡ tree_after tree line
tree_trimmed None line = refl
tree_trimmed (Some path) (Nogood conds hints) = refl
tree_trimmed (Some path) (Branch cut carrier at) = refl
tree_trimmed (Some path) (Up line) = refl

end_trimmed : (done : List LogLine) (tree : Tree) → verdict_at_end (map trimmed done) tree ≡ verdict_at_end done tree
end_trimmed done None = refl
end_trimmed done (Some path) = ap verdict.Unfinished (count_mapped is_branch trimmed done branch_trimmed)

next_same : (o : Option Cause) (x y : Verdict) (m n : ℕ) → x ≡ y → m ≡ n
    → (elim o as (λ _. Verdict) [ None ↦ x | Some reason ↦ verdict.Refused (m + 1) reason ]) ≡ (elim o as (λ _. Verdict) [ None ↦ y | Some reason ↦ verdict.Refused (n + 1) reason ])
next_same None x y m n same long = same
next_same (Some reason) x y m n same long = ap (λ k. verdict.Refused (k + 1) reason) long

walk_trimmed : (case : Case) (done : List LogLine) (tree : Tree) (rest : List LogLine) → All LineAims rest
    → walk case (map trimmed done) tree (map trimmed rest) ≡ walk case done tree rest
walk_trimmed case done tree [] aims = end_trimmed done tree
walk_trimmed case done tree (line ∷ rest) aims =
    let more : walk case (map trimmed done ++ trimmed line ∷ []) (tree_after tree (trimmed line)) (map trimmed rest) ≡ walk case (done ++ line ∷ []) (tree_after tree line) rest
    = ap (λ (ls : List LogLine). walk case ls (tree_after tree (trimmed line)) (map trimmed rest)) (sym (map-append trimmed done (line ∷ [])))
    ∙ ap (λ (t : Tree). walk case (map trimmed (done ++ line ∷ [])) t (map trimmed rest)) (tree_trimmed tree line)
    ∙ walk_trimmed case (done ++ line ∷ []) (tree_after tree line) rest (All-tail LineAims line rest aims) in
    ap (λ (o : Option Cause). elim o as (λ _. Verdict) [
      | None ↦ walk case (map trimmed done ++ trimmed line ∷ []) (tree_after tree (trimmed line)) (map trimmed rest)
      | Some reason ↦ verdict.Refused (length (map trimmed done) + 1) reason
    ]) (cause_trimmed case done tree line (All-head LineAims line rest aims))
    ∙ next_same (cause_of case done tree line) _ _ (length (map trimmed done)) (length done) more (length-map done trimmed)

pub verdict_trimmed : (case : Case) (lines : List LogLine) → All LineAims lines → verdict_of case (map trimmed lines) ≡ verdict_of case lines
verdict_trimmed case lines aims = walk_trimmed case [] (Some []) lines aims

-- ---- targets are kept

hint_aims : (hint : Hint) → Aims (trimmed_hint hint) → Aims hint
hint_aims (Earlier line) aims = tt
hint_aims (Ban carrier lo hi) aims = tt
hint_aims (Rule kind roles target lo hi) aims = aims

hint_still : (hint : Hint) → Aims hint → Aims (trimmed_hint hint)
hint_still (Earlier line) aims = tt
hint_still (Ban carrier lo hi) aims = tt
hint_still (Rule kind roles target lo hi) aims = aims

each_back : {X : Type 0} (P : X → Type 0) (f : X → X) (xs : List X) → ((x : X) → P (f x) → P x) → All P (map f xs) → All P xs
each_back P f [] back all = All-nil P
each_back P f (x ∷ xs) back all = All-cons P x xs (back x (All-head P (f x) (map f xs) all)) (each_back P f xs back (All-tail P (f x) (map f xs) all))

each_on : {X : Type 0} (P : X → Type 0) (f : X → X) (xs : List X) → ((x : X) → P x → P (f x)) → All P xs → All P (map f xs)
each_on P f xs on all = All-map P f xs (All-weaker P (λ x. P (f x)) on xs all)

line_aims : (line : LogLine) → LineAims (trimmed line) → LineAims line
line_aims (Nogood conds hints) aims = each_back Aims trimmed_hint hints hint_aims aims
line_aims (Branch cut carrier at) aims = tt
line_aims (Up line) aims = tt

line_still : (line : LogLine) → LineAims line → LineAims (trimmed line)
line_still (Nogood conds hints) aims = each_on Aims trimmed_hint hints hint_still aims
line_still (Branch cut carrier at) aims = tt
line_still (Up line) aims = tt

pub aims_back : (lines : List LogLine) → All LineAims (map trimmed lines) → All LineAims lines
aims_back lines aims = each_back LineAims trimmed lines line_aims aims

pub aims_on : (lines : List LogLine) → All LineAims lines → All LineAims (map trimmed lines)
aims_on lines aims = each_on LineAims trimmed lines line_still aims
