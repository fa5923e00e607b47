use Rattle.std.proofs.Common.{refl, ◌≡◌, length, ap, sym, ◌∙◌, arith}
use Rattle.std.specs.Option.{option_map_or}
use Rattle.std.proofs.lemmas.List.{length-map}
use Rattle.rf_rules.proofs.TupleLaws.{length-upto, upto-zero}
use Rattle.rf_profiles.specs.Profile.{margin_of}
use Rattle.rf_show.specs.Query.{asked}
use Rattle.rf_rules.specs.Tuples.{upto}
use Rattle.rf_spares.specs.Crowds.{asked_at}
use Rattle.rf_spares.proofs.ListLemmas.{fill-upto}
use Rattle.rf_spares.proofs.crowd.Crowd.needs.Goals as goal

pub loop-carrier-init : goal.loop-carrier-init
loop-carrier-init c = let own = c.own_needs-needs.ensures in rw (own, upto-zero) refl

pub loop-carrier-preserved : goal.loop-carrier-preserved
loop-carrier-preserved c =
    fill-upto (asked c.args.self.now.show.now c.args.kind) c.loop-carrier.needs 96 c.loop-carrier.carrier
    (asked_at c.args.self.now.show.now c.args.self.now.profile c.args.kind) c.margin.result c.loop-carrier.invariant
    (omega (arith, ap length c.carriers-carrier-end.ensures.value, c.carriers-carrier-end.ensures.few, c.loop-carrier-test.true))
    (c.margin.ensures ∙ sym (ap (λ o. option_map_or (λ p. margin_of p c.args.kind) o 0) c.profile_of.ensures.value))

pub returns : goal.returns
returns c =
    let show = c.args.self.now.show.now in
    let n = length show.carriers in
    let end : c.loop-carrier.carrier ≡ n = omega (arith, ap length c.carriers-carrier-end.ensures.value, c.loop-carrier-test.false, c.loop-carrier.auto.carrier-end) in
    let long = length-map (upto n) (asked show c.args.kind) ∙ length-upto n in
    rw (long, ← end) c.loop-carrier.invariant
