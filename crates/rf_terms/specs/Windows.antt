-- The numbers that break a form in one of its roles.
use Rattle.std.specs.Prelude.{◌<◌, ◌↔◌, ℕ, ℤ, pos, ◌≤ℤ◌, unsigned_abs, List, Option, Some, None, map, insert}
use Rattle.rf_terms.specs.Kinds.{coefficients_of}
use Rattle.rf_terms.specs.Forms.{form}
use Rattle.rf_terms.specs.declared.kind.Kind.{Kind}

-- the form where one role has x, and the others the frequencies
abbrev pub form_with : List ℤ → ℕ → List ℕ → ℤ → ℤ
form_with cs role others x = form cs (insert (map pos others) role x)

-- x breaks the form in this role, where the other roles have these frequencies
abbrev pub Breaks : Kind → ℕ → List ℕ → ℕ → ℤ → Type 0
Breaks kind role others margin x = unsigned_abs (form_with (coefficients_of kind) role others x) < margin

-- the least and the greatest number with P, between which every number has P, or none where no number has
abbrev pub IsWindow : (ℤ → Type 0) → Option (ℤ × ℤ) → Type 0
IsWindow P None = (x : ℤ) → ¬ P x
IsWindow P (Some w) = (w.0 ≤ℤ w.1) × ((x : ℤ) → P x ↔ ((w.0 ≤ℤ x) × (x ≤ℤ w.1)))
