-- Conditions that are decisions of a path, in the order of the code.
use Rattle.std.proofs.Common.{◌≡◌, ℕ, zero, suc, ◌+◌, ◌-◌, ◌<◌, List, [], ◌∷◌, Bool, true, false, ◌&&◌, ◌==◌, length, reverse, refl, sym, ◌∙◌, ap, subst, arith, inl, inr}
use mathlib.Core.Bool.{beq}
use Rattle.std.specs.Prelude.{Contains, None, slice_index_or}
use Rattle.std.proofs.lemmas.Bool.{cases_eq, and_parts, eqb-true, true≢false}
use Rattle.std.proofs.lemmas.List.{length-reverse, length-map, get_or-reverse}
use Rattle.rf_log.specs.declared.cond.Cond.{Cond}
use Rattle.rf_search.specs.declared.level.Level.{Level}
use Rattle.rf_search.specs.State.{path_of, AreDecided}

cond_at : (levels : List Level) (k : ℕ) (d : Level) (e : Cond) → k < length levels → slice_index_or (path_of levels) k e ≡ (slice_index_or levels k d).cond
cond_at [] k d e low = absurd (omega arith)
cond_at (l ∷ ls) zero d e low = refl
cond_at (l ∷ ls) (suc k) d e low = cond_at ls k d e (omega arith)

-- the condition of a level is a decision
pub level_has : (levels : List Level) (k : ℕ) (d : Level) (cond : Cond) → k < length levels → (slice_index_or levels k d).cond ≡ cond → Contains (path_of (reverse levels)) cond
level_has levels k d cond low is =
    let n = length levels - 1 - k in
    let size = length-reverse levels in
    let count = length-map (reverse levels) (λ (l : Level). l.cond) in
    let back : length levels - 1 - n ≡ k = omega arith in (
      n,
      omega (arith, size, count),
      cond_at (reverse levels) n d cond (omega (arith, size))
          ∙ (ap (λ (l : Level). l.cond) (get_or-reverse levels n d (omega arith))
          ∙ (ap (λ (i : ℕ). (slice_index_or levels i d).cond) back ∙ is)),
    )

-- a decision is the condition of a level
pub has_level : (levels : List Level) (cond : Cond) → Contains (path_of (reverse levels)) cond → ((k : ℕ) (d : Level) → k < length levels → (slice_index_or levels k d).cond ≡ cond → ⊥) → ⊥
has_level levels cond has none =
    let n = has.0 in
    let d : Level = record { cond = cond; mark = record { entries = 0 }; closed_by = None } in
    let size = length-reverse levels in
    let count = length-map (reverse levels) (λ (l : Level). l.cond) in
    let low : n < length levels = omega (arith, size, count, has.1) in
    none (length levels - 1 - n) d (omega arith)
    (sym (ap (λ (l : Level). l.cond) (get_or-reverse levels n d low)) ∙ (sym (cond_at (reverse levels) n d cond (omega (arith, size, low))) ∙ has.2))

pub decided_from : (path conds : List Cond) → ((k : ℕ) (d : Cond) → k < length conds → Contains path (slice_index_or conds k d)) → AreDecided path conds
decided_from path conds all = record { each = λ cond has. subst (λ (x : Cond). Contains path x) has.2 (all has.0 cond has.1) }

pub decided_more : (path conds : List Cond) (i : ℕ) (e : Cond) → i < length conds
    → ((k : ℕ) (d : Cond) → k < i → Contains path (slice_index_or conds k d)) → Contains path (slice_index_or conds i e) → (k : ℕ) (d : Cond) → k < i + 1 → Contains path (slice_index_or conds k d)
decided_more path conds i e low before here k d below = elim (cases_eq k i) [
  | inl last ↦ subst (λ (j : ℕ). Contains path (slice_index_or conds j d)) (sym last) (subst (λ (x : Cond). Contains path x) (same_at conds i d e low) here)
  | inr other ↦ before k d (omega arith)
]
  where
    same_at : (xs : List Cond) (k : ℕ) (d e : Cond) → k < length xs → slice_index_or xs k e ≡ slice_index_or xs k d
    same_at [] k d e low = absurd (omega arith)
    same_at (x ∷ xs) zero d e low = refl
    same_at (x ∷ xs) (suc k) d e low = same_at xs k d e (omega arith)

-- two conditions that are found equal field by field
pub cond_same : (a b : Cond) → ((a.carrier == b.carrier) && (beq a.inside b.inside && ((a.lo == b.lo) && (a.hi == b.hi)))) ≡ true → a ≡ b
cond_same a b all =
    let first = and_parts (a.carrier == b.carrier) _ all in
    let second = and_parts (beq a.inside b.inside) _ first.1 in
    let third = and_parts (a.lo == b.lo) _ second.1 in
    let carrier : a.carrier ≡ b.carrier = eqb-true a.carrier b.carrier first.0 in
    let inside : a.inside ≡ b.inside = bools a.inside b.inside second.0 in
    let lo : a.lo ≡ b.lo = eqb-true a.lo b.lo third.0 in
    let hi : a.hi ≡ b.hi = eqb-true a.hi b.hi third.1 in
    ap (λ (x : ℕ). with_all x a.inside a.lo a.hi) carrier ∙ (ap (λ (x : Bool). with_all b.carrier x a.lo a.hi) inside
    ∙ (ap (λ (x : ℕ). with_all b.carrier b.inside x a.hi) lo ∙ ap (λ (x : ℕ). with_all b.carrier b.inside b.lo x) hi))
  where
    with_all : ℕ → Bool → ℕ → ℕ → Cond
    with_all c i l h = record { carrier = c; inside = i; lo = l; hi = h }

    bools : (x y : Bool) → beq x y ≡ true → x ≡ y
    bools true true e = refl
    bools false false e = refl
    bools true false e = absurd (true≢false (sym e))
    bools false true e = absurd (true≢false (sym e))
