use Rattle.std.proofs.Common.{◌≡◌, ℤ, pos, ◌+ℤ◌, ◌*ℤ◌, unsigned_abs, get_or, take, drop, map, ap, ◌∙◌, add-one, arith, suc, to_z, of_z, w64}
use Rattle.std.proofs.lemmas.List.{take_rest}
use Rattle.rf_terms.specs.Kinds.{AllSmall, coefficients_of}
use Rattle.rf_terms.specs.Forms.{form}
use Rattle.rf_terms.specs.Windows.{Breaks, form_with}
use Rattle.rf_terms.proofs.FormLaws.{form-insert, told, sum-told}
use Rattle.rf_terms.proofs.WindowLemmas.{window-same}
use Rattle.rf_terms.proofs.windows.window.Goals as goal

pub returns : goal.returns
returns c =
    let cs = coefficients_of c.args.kind in
    let fs = c.args.others.now in
    let role = c.args.role in
    let same : c.coefficients-multiples.result.now ≡ cs = c.coefficients-multiples.ensures.value in
    let small : AllSmall cs = rw (← same) c.coefficients-multiples.ensures.small in
    let m : to_z w64 (of_z w64 (get_or c.coefficients-multiples.result.now role (pos 0))) ≡ get_or cs role (pos 0) =
    rw same (told (get_or cs role (pos 0)) (omega (arith, small role (pos 0) c.requires.role))) in
    let a : c.weighted-before.result ≡ form (take role cs) (map pos (take role fs)) = rw (← same) c.weighted-before.ensures.value in
    let b : c.weighted-after.result ≡ form (drop (suc role) cs) (map pos (drop role fs)) = c.weighted-after.ensures.value ∙ simp (same, take_rest, add-one) in
    let s : to_z w64 (of_z w64 (to_z w64 (of_z w64 c.weighted-before.result) +ℤ to_z w64 (of_z w64 c.weighted-after.result))) ≡ form (take role cs) (map pos (take role fs))
    +ℤ form (drop (suc role) cs) (map pos (drop role fs)) = sum-told c.weighted-before.result c.weighted-after.result c.weighted-before.ensures.bound c.weighted-after.ensures.bound
    ∙ ap (λ (k : ℤ). k +ℤ c.weighted-after.result) a ∙ ap (λ (k : ℤ). form (take role cs) (map pos (take role fs)) +ℤ k) b in
    window-same _ (Breaks c.args.kind c.args.role c.args.others.now c.args.margin) c.near.result
    (λ x. let e = form-insert cs fs role (pos 0) x c.requires.role c.requires.others in
    let same-form : form_with cs role fs x ≡ (to_z w64 (of_z w64 (get_or c.coefficients-multiples.result.now role (pos 0))) *ℤ x)
    +ℤ to_z w64 (of_z w64 (to_z w64 (of_z w64 c.weighted-before.result) +ℤ to_z w64 (of_z w64 c.weighted-after.result))) = rw (m, s, e) in
    (λ h. omega (arith, ap unsigned_abs same-form, h), λ h. omega (arith, ap unsigned_abs same-form, h)))
    c.near.ensures
