use Rattle.std.proofs.Common.{◌≡◌, length, take, refl, ap, arith, ◌∙◌, filter}
use Rattle.std.specs.List.{flat_map}
use Rattle.rf_terms.specs.Kinds.{kinds}
use Rattle.rf_rules.specs.Instances.{ats_of}
use Rattle.rf_rules.specs.Tallies.{shown_of}
use Rattle.rf_rules.specs.Products.{all_products, lies, noted_of, products}
use Rattle.rf_rules.proofs.SizeLemmas.{listed-is, noted-all}
use Rattle.rf_rules.proofs.FrontLemmas.{values-many}
use Rattle.rf_rules.proofs.product_list.products.Goals as goal

pub returns : goal.returns
unfolding shown_of
returns c =
    let show = c.args.show.now in
    let lo = c.args.lo in
    let hi = c.args.hi in
    let e : take (length c.carriers.result.now) c.assigned-ats.result ≡ ats_of show = rw c.carriers.ensures.value c.assigned-ats.ensures in
    let noted : c.add_products.new.found.items ≡ flat_map (noted_of show (ats_of show) lo hi) kinds = rw (c.in_ok-company.ensures.same, e, c.new-found.ensures.items) at c.in_ok-add_products.ensures in
    let found : c.add_products.new.found.items ≡ filter (lies lo hi) (all_products show) = noted ∙ noted-all show lo hi in
    let shown = c.from_vec.ensures ∙ c.truncate.ensures.items ∙ c.in_ok-shown.ensures (all_products show) (c.deref.ensures.value ∙ found) in
    listed-is show lo hi (products show lo hi) _ _ refl shown (omega (arith, c.len.ensures, c.add_products.new.found.ok.0, ap length found, values-many lo hi (all_products show)))
