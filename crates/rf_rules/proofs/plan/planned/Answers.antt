use Rattle.std.proofs.Common.{◌≡◌, ℕ, ◌∷◌, [], ◌++◌, map, take, length, length-set, ap, sym, ◌∙◌, arith, Option, slice_index}
use Rattle.std.proofs.lemmas.List.{take_more_set}
use Rattle.rf_show.specs.Query.{channel_of}
use Rattle.rf_rules.proofs.TupleLaws.{map-upto, upto-zero}
use Rattle.rf_rules.proofs.plan.planned.Goals as goal

pub loop-carrier-init : goal.loop-carrier-init
loop-carrier-init c = record {
  ats = sym (ap (map (λ k. channel_of c.args.show.now k (slice_index c.args.plan.now k))) upto-zero);
  room = omega (arith, c.carriers-carrier-end.ensures.few);
}

pub loop-carrier-preserved : goal.loop-carrier-preserved
loop-carrier-preserved c =
    let i = c.loop-carrier.carrier in
    let f : ℕ → Option ℕ = λ k. channel_of c.args.show.now k (slice_index c.args.plan.now k) in
    record {
      ats = take_more_set c.loop-carrier.ats i _ (omega (arith, c.loop-carrier.invariant.room, ap length c.carriers-carrier-end.ensures.value, c.loop-carrier-test.true)) ∙
          ap (λ zs. take i c.loop-carrier.ats ++ zs ∷ []) c.channel_of.ensures ∙ ap (λ zs. zs ++ f i ∷ []) c.loop-carrier.invariant.ats ∙ sym (map-upto f i);
      room = rw length-set c.loop-carrier.invariant.room;
    }

pub returns : goal.returns
returns c =
    let end : c.loop-carrier.carrier ≡ length c.args.plan.now = omega (arith, ap length c.carriers-carrier-end.ensures.value, c.requires, c.loop-carrier-test.false, c.loop-carrier.auto.carrier-end) in
    rw end at c.loop-carrier.invariant.ats
