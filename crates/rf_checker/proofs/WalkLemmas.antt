-- The path, and the tests of a line.
use Rattle.std.proofs.Common.{◌≡◌, ℕ, zero, suc, ◌+◌, ◌<◌, ◌≤◌, List, [], ◌∷◌, length, Bool, true, refl, sym, ◌∙◌, ap, subst, arith, take, get_or, set, reverse, ◌&&◌}
use Rattle.std.specs.Prelude.{Some, nat_lt, if◌then◌else◌, slice_index}
use Rattle.std.specs.List.{All, list_all}
use Rattle.std.proofs.lemmas.Bool.{and_parts, ltb-true}
use Rattle.std.proofs.lemmas.List.Folds.{list_all-append}
use mathlib.Core.Path.{fun_ext}
use Rattle.rf_log.specs.declared.line.LogLine.{LogLine}
use Rattle.rf_log.specs.declared.line.LogLine.TheVariants.{Nogood}
use Rattle.rf_log.specs.Box.{box_of, is_met_by}
use Rattle.std.proofs.lemmas.List.{take_more, take_more_set, reverse-append}
use Rattle.rf_log.specs.declared.cond.Cond.{Cond}
use Rattle.rf_terms.specs.declared.kind.Kind.{Kind}
use Rattle.rf_log.specs.declared.hint.Hint.{Hint}
use Rattle.rf_log.specs.declared.hint.Hint.TheVariants.{Earlier, Ban, Rule}
use Rattle.rf_terms.specs.Kinds.{roles_of}
use Rattle.rf_terms.proofs.KindLaws.{four_roles}
use Rattle.rf_log.specs.Case.{Case, count_of}
use Rattle.rf_checker.specs.Lines.{HasTarget, HintKnown}
use Rattle.rf_log.specs.Walk.{turned, right_side, knows_hint, knows_names}
use Rattle.rf_base.proofs.ListLaws.{all_below}
use mathlib.Core.Bool.{and_comm}

-- what a prefix of roles has at a place is what the roles have there
pub role_at : (n count : ℕ) (roles : List ℕ) (place : ℕ) → All (λ c. c < count) (take n roles) → place < n → n ≤ length roles → slice_index roles place < count
role_at zero count roles place known low fits = absurd (omega arith)
role_at (suc n) count [] place known low fits = absurd (omega arith)
role_at (suc n) count (r ∷ roles) zero known low fits = known 0 r (omega arith)
role_at (suc n) count (r ∷ roles) (suc place) known low fits = role_at n count roles place (λ k d low'. known (suc k) d (omega arith)) (omega arith) (omega arith)

-- the last left side of a path, with the last decision first, is turned
pub turn_at : (path : List Cond) (i : ℕ) (d new : Cond) → i < length path → (get_or path i d).inside ≡ true → new ≡ right_side (get_or path i d)
    → turned (reverse (take (i + 1) path)) ≡ Some (reverse (take (i + 1) (set path i new)))
turn_at path i d new low left is =
    let front : reverse (take (i + 1) path) ≡ get_or path i d ∷ reverse (take i path) =
    ap (λ (xs : List Cond). reverse xs) (take_more path i d low) ∙ reverse-append (take i path) (get_or path i d ∷ []) in
    let back : reverse (take (i + 1) (set path i new)) ≡ new ∷ reverse (take i path) =
    ap (λ (xs : List Cond). reverse xs) (take_more_set path i new low) ∙ reverse-append (take i path) (new ∷ []) in
    ap turned front ∙ (ap (λ (b : Bool). if b then Some (right_side (get_or path i d) ∷ reverse (take i path)) else turned (reverse (take i path))) left
    ∙ (ap (λ (x : Cond). Some (x ∷ reverse (take i path))) (sym is) ∙ ap (λ (xs : List Cond). Some xs) (sym back)))

pub rule_known : (case : Case) (hint : Hint) (kind : Kind) (roles : List ℕ) (target lo hi : ℕ) → HasTarget hint → HintKnown case hint → hint ≡ Rule kind roles target lo hi
    → slice_index roles target < length case.carriers
rule_known case hint kind roles target lo hi has known is =
    let t : HasTarget (Rule kind roles target lo hi) = subst (λ (h : Hint). HasTarget h) is has in
    let k : HintKnown case (Rule kind roles target lo hi) = subst (λ (h : Hint). HintKnown case h) is known in
    role_at (roles_of kind) (length case.carriers) roles target k t.0 (omega (arith, t.1, four_roles kind))

hint_known : (case : Case) (hint : Hint) → knows_hint case hint ≡ true → HintKnown case hint
hint_known case (Earlier line) known = tt
hint_known case (Ban carrier lo hi) known = ltb-true carrier (length case.carriers) known
hint_known case (Rule kind roles target lo hi) known = all_below (length case.carriers) (take (roles_of kind) roles) known

hints_known : (case : Case) (hints : List Hint) → list_all (knows_hint case) hints ≡ true → All (HintKnown case) hints
hints_known case [] known k d low = absurd (omega arith)
hints_known case (h ∷ hs) known zero d low = hint_known case h (and_parts (knows_hint case h) _ known).0
hints_known case (h ∷ hs) known (suc k) d low = hints_known case hs (and_parts (knows_hint case h) _ known).1 k d (omega arith)

pub line_known : (case : Case) (line : LogLine) (conds : List Cond) (hints : List Hint) (slice : List Hint) → knows_names case line ≡ true → line ≡ Nogood conds hints
    → slice ≡ hints → All (HintKnown case) slice
line_known case line conds hints slice known is same =
    let k : knows_names case (Nogood conds hints) ≡ true = subst (λ (l : LogLine). knows_names case l ≡ true) is known in
    subst (λ (xs : List Hint). All (HintKnown case) xs) (sym same) (hints_known case hints (and_parts _ _ k).1)

all_reversed : (p : Cond → Bool) (xs : List Cond) → list_all p (reverse xs) ≡ list_all p xs
all_reversed p [] = refl
all_reversed p (x ∷ xs) =
    ap (list_all p) (reverse-append (x ∷ []) xs) ∙ (list_all-append p (reverse xs) (x ∷ [])
    ∙ (ap (λ (b : Bool). b && (p x && true)) (all_reversed p xs) ∙ (and_comm (list_all p xs) (p x && true) ∙ ap (λ (b : Bool). b && list_all p xs) (and_comm (p x) true))))

-- the order of the conditions of a box doesn't count
pub box_reversed : (case : Case) (conds : List Cond) → box_of case (reverse conds) ≡ box_of case conds
box_reversed case conds = fun_ext (λ c. fun_ext (λ k. ap (λ (b : Bool). nat_lt k (count_of case c) && b) (all_reversed (is_met_by c k) conds)))
