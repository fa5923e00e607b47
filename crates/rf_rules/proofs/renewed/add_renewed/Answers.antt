use Rattle.std.proofs.Common.{◌≤◌, List, ap, length, ◌∙◌, subst, arith}
use Rattle.std.proofs.lemmas.List.{length-map}
use Rattle.rf_show.specs.Limits.{most_carriers}
use Rattle.rf_rules.specs.Touched.{touched_of}
use Rattle.rf_rules.specs.Tallies.{Extends}
use Rattle.rf_rules.specs.declared.conflict.Conflict.{Conflict}
use Rattle.rf_rules.proofs.TallyLemmas.{IsWhole, from-same, whole}
use Rattle.rf_rules.specs.Merges.{merge}
use Rattle.rf_rules.specs.Renewed.{precedes}
use Rattle.rf_rules.proofs.CountLemmas.{shown-few, touched-few}
use Rattle.rf_rules.proofs.renewed.add_renewed.Goals as goal
use Rattle.rf_rules.proofs.renewed.add_renewed.Goals.{After-as_slice}

found : (c : After-as_slice) → IsWhole c.add_touched.new.tally (touched_of c.args.company.now.show.now c.args.ats.now c.args.kind c.args.mask)
found c =
    let few : length c.args.ats.now ≤ most_carriers = omega (arith, ap length c.requires.carriers, length-map c.args.company.now.show.now.carriers (λ d. d.at), c.requires.known.few) in
    whole c.new-found.result c.add_touched.new.tally _ c.new-found.ensures c.in_ok-add_touched.ensures (touched-few c.args.company.now.show.now c.args.ats.now c.args.kind c.args.mask few)

pub add_merged-requires : goal.add_merged-requires
add_merged-requires c =
    let f = found (goal.at.add_merged-requires c).After-as_slice in
    omega (arith, ap length f.shown, f.total, shown-few (touched_of c.args.company.now.show.now c.args.ats.now c.args.kind c.args.mask))

pub returns : goal.returns
returns c =
    let show = c.args.company.now.show.now in
    let f = found (goal.at.returns c).After-as_slice in
    let kept = c.as_slice.ensures.value ∙ c.in_ok-kept.ensures in
    let P : List Conflict → Type 0 = λ zs. Extends c.args.tally.now c.add_merged.new.tally (merge (precedes c.args.kind) zs (touched_of show c.args.ats.now c.args.kind c.args.mask)) in
    let merged = c.in_ok-add_merged.ensures (touched_of show c.args.ats.now c.args.kind c.args.mask) f.shown f.total in
    rw (← c.requires.carriers)
    (subst P kept (from-same c.args.tally.now c.count_products.new.self c.add_merged.new.tally _ c.count_products.ensures.shown c.count_products.ensures.total merged))
