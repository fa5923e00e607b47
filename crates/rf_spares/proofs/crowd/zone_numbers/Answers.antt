use Rattle.std.proofs.Common.{◌<◌, ◌∙◌, length, length-set, refl, ap, arith}
use Rattle.std.proofs.lemmas.List.{get_or-replicate, length-replicate}
use Rattle.rf_show.specs.Show.{zone_number}
use Rattle.rf_spares.proofs.ListLemmas.{fill-map, set-each}
use Rattle.rf_spares.proofs.crowd.zone_numbers.Goals as goal

pub loop-i-init : goal.loop-i-init
loop-i-init c = record {
  done = refl;
  within = λ k h. rw (get_or-replicate 96 k c.args.own 0 h) c.requires;
  room = length-replicate 96 c.args.own;
}

pub loop-i-preserved : goal.loop-i-preserved
loop-i-preserved c = record {
  done = fill-map (λ x. zone_number c.args.show.now.zones x.zone) c.carriers-carrier-items.result.now c.loop-i.numbers 96 c.loop-i.i c.args.own c.number_of.result c.carrier-item.result
      c.loop-i.invariant.done c.loop-i-test.true (omega (arith, ap length c.carriers-carrier-items.ensures.value, c.carriers-carrier-items.ensures.few)) c.carrier-item.is
      c.number_of.ensures.value;
  within = λ k low. set-each (λ j m. m < length c.args.show.now.zones.names) c.loop-i.numbers c.loop-i.i c.number_of.result
      (omega (arith, c.loop-i.invariant.room, ap length c.carriers-carrier-items.ensures.value, c.carriers-carrier-items.ensures.few, c.loop-i-test.true))
      c.number_of.ensures.within k (λ other. c.loop-i.invariant.within k low);
  room = length-set c.loop-i.numbers _ _ ∙ c.loop-i.invariant.room;
}
