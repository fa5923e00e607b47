use Rattle.std.proofs.Common.{◌≡◌, ◌≤◌, ◌<◌, ◌↔◌, ℤ, pos, ◌+ℤ◌, ◌*ℤ◌, ◌≤ℤ◌, ◌-ℤ◌, neg_ℤ, unsigned_abs, arith, to_z, of_z, w64, ap, ◌∙◌}
use Rattle.std.proofs.lemmas.Int.{ints, to_z-of_z}
use Rattle.rf_terms.proofs.FormLaws.{told}
use Rattle.rf_terms.proofs.WindowLemmas.{Ends, IsCentre, centre-small, near-ends, low-is, high-is}
use Rattle.rf_terms.proofs.windows.near.Goals as goal
use Rattle.rf_terms.proofs.windows.near.Goals.{then-coefficient-lt0, else-coefficient-lt0, After-div_euclid-greatest}

rest-told : (c : After-div_euclid-greatest) → to_z w64 (of_z w64 c.args.rest) ≡ c.args.rest
rest-told c = told c.args.rest (omega (arith, c.requires.rest))

multiple-told : (c : After-div_euclid-greatest) → to_z w64 (of_z w64 c.args.coefficient) ≡ c.args.coefficient
multiple-told c = told c.args.coefficient (omega (arith, c.requires.small.1))

centre : (c : After-div_euclid-greatest) → IsCentre c.args.coefficient c.args.rest (to_z w64 c.if-coefficient-lt0.centre-bits)
centre c =
    let m = multiple-told c in
    let r = rest-told c in
    elim c.if-coefficient-lt0.branch [
      | then-coefficient-lt0 w ↦ record { below = λ _. w.centre-is ∙ r; above = λ h. absurd (grind (arith, ints, w.if-coefficient-lt0.true, m, h)) }
      | else-coefficient-lt0 w ↦ record {
        below = λ h. absurd (grind (arith, ints, w.if-coefficient-lt0.false, m, h));
        above = λ _. let e : pos 0 -ℤ to_z w64 (of_z w64 c.args.rest) ≡ neg_ℤ c.args.rest = omega (arith, ints, r) in
            w.centre-is ∙ ap (λ (k : ℤ). to_z w64 (of_z w64 k)) e ∙ told (neg_ℤ c.args.rest) (omega (arith, ints, c.requires.rest));
      }
    ]

size : (c : After-div_euclid-greatest) → unsigned_abs (to_z w64 c.if-coefficient-lt0.centre-bits) ≤ 1280000000
size c = centre-small c.args.coefficient c.args.rest _ 1280000000 (centre c) c.requires.rest

step : (c : After-div_euclid-greatest) → c.abs-step.result ≡ pos (unsigned_abs c.args.coefficient)
step c = c.abs-step.ensures.value ∙ ap (λ (k : ℤ). pos (unsigned_abs k)) (multiple-told c)

ends : (c : After-div_euclid-greatest) → Ends c.args.coefficient c.args.rest c.args.margin c.div_euclid-least.result c.div_euclid-greatest.result
ends c = record {
  centre = to_z w64 c.if-coefficient-lt0.centre-bits;
  is_centre = centre c;
  some = c.requires.small.0;
  low = low-is _ _ _ _ c.args.margin (unsigned_abs c.args.coefficient) (size c) c.from-margin.ensures (step c) (omega arith) c.requires.small.1 c.div_euclid-least.ensures;
  high = high-is _ _ _ _ c.args.margin (unsigned_abs c.args.coefficient) (size c) c.from-margin.ensures (step c) (omega arith) c.requires.small.1 c.div_euclid-greatest.ensures;
}

least : (c : After-div_euclid-greatest) → to_z w64 (of_z w64 c.div_euclid-least.result) ≡ c.div_euclid-least.result
least c = to_z-of_z w64 c.div_euclid-least.result (record { sfits = c.div_euclid-least.type_inv })

greatest : (c : After-div_euclid-greatest) → to_z w64 (of_z w64 c.div_euclid-greatest.result) ≡ c.div_euclid-greatest.result
greatest c = to_z-of_z w64 c.div_euclid-greatest.result (record { sfits = c.div_euclid-greatest.type_inv })

exact : (c : After-div_euclid-greatest) (x : ℤ) →
    (unsigned_abs ((c.args.coefficient *ℤ x) +ℤ c.args.rest) < c.args.margin) ↔ ((to_z w64 (of_z w64 c.div_euclid-least.result) ≤ℤ x) × (x ≤ℤ to_z w64 (of_z w64 c.div_euclid-greatest.result)))
exact c x = rw (least c, greatest c) (near-ends c.args.coefficient c.args.rest c.args.margin _ _ x (ends c))

pub returns-then-least-greatest : goal.returns-then-least-greatest
returns-then-least-greatest c = (grind (arith, ints, c.if-least-greatest.true), exact (goal.at.returns-then-least-greatest c).After-div_euclid-greatest)

pub returns-else-least-greatest : goal.returns-else-least-greatest
returns-else-least-greatest c = λ x p.
    let h = (exact (goal.at.returns-else-least-greatest c).After-div_euclid-greatest x).0 p in
    absurd (grind (arith, ints, c.if-least-greatest.false, h.0, h.1))
