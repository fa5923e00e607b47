use Rattle.std.proofs.Common.{◌≡◌, ◌≤◌, ℤ, pos, ◌+ℤ◌, ◌*ℤ◌, unsigned_abs, get_or, length, refl, ap, sym, ◌∙◌, arith, to_z, of_z, w64}
use Rattle.std.proofs.lemmas.Int.{to_z-of_z}
use Rattle.rf_terms.specs.Kinds.{coefficients_of}
use Rattle.rf_rules.specs.Instances.{khz_in}
use Rattle.rf_rules.proofs.FormLemmas.{partial-push}
use Rattle.rf_rules.proofs.ReadyLemmas.{ready-bound, ready-small}
use Rattle.rf_rules.proofs.search.Search.with.Goals as goal
use Rattle.rf_terms.proofs.FormLaws.{told}

pub sum-requires-clause-a : goal.sum-requires-clause-a
sum-requires-clause-a c =
    rw (to_z-of_z w64 c.args.product c.ranges.product, c.requires.product) (ready-bound c.args.self.now c.args.t.now c.requires.ready)

pub returns : goal.returns
returns c =
    let s = c.args.self.now in
    let t = c.args.t.now in
    let m = get_or (coefficients_of s.kind) (length t) (pos 0) in
    let f = khz_in s.ats.now c.args.carrier in
    let small : unsigned_abs m ≤ 8 = (ready-small s c.requires.ready (length t) (pos 0) c.requires.depth).1 in
    let p : to_z w64 (of_z w64 c.args.product) ≡ c.args.product = to_z-of_z w64 c.args.product c.ranges.product in
    let r : to_z w64 (of_z w64 c.sum.result) ≡ c.sum.result = to_z-of_z w64 c.sum.result (record { sfits = c.sum.type_inv }) in
    let q : to_z w64 (of_z w64 c.term.result) ≡ c.term.result = to_z-of_z w64 c.term.result (record { sfits = c.term.type_inv }) in
    let k : to_z w64 (of_z w64 c.khz.result) ≡ pos f = to_z-of_z w64 c.khz.result (record { sfits = c.khz.type_inv }) ∙ c.khz.ensures.value in
    let n : to_z w64 (of_z w64 m) ≡ m = told m (omega (arith, small)) in
    let coefficient : to_z w64 (of_z w64 (get_or s.coefficients.now (length t) (pos 0))) ≡ m = rw c.requires.ready.coefficients n in
    let term : to_z w64 (of_z w64 c.term.result) ≡ m *ℤ pos f = q ∙ c.term.ensures.value ∙ rw (coefficient, k) refl in
    r ∙ c.sum.ensures ∙ rw (p, term) (ap (λ (z : ℤ). z +ℤ (m *ℤ pos f)) c.requires.product) ∙ sym (partial-push s.kind s.ats.now t c.args.carrier)
