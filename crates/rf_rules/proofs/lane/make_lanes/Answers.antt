use Rattle.std.proofs.Common.{◌≡◌, ◌<◌, ◌++◌, ◌∷◌, [], None, pos, ◌*ℤ◌, map, unsigned_abs, take, length-set, get_or, length, ap, sym, ◌∙◌, arith, to_z, of_z, w64}
use Rattle.std.specs.Option.{option_map_or}
use Rattle.std.proofs.lemmas.Int.{to_z-of_z}
use Rattle.std.proofs.lemmas.List.{take_more, take_more_set, take_all}
use Rattle.rf_profiles.specs.Profile.{margin_of}
use Rattle.rf_show.specs.Query.{asked}
use Rattle.rf_rules.specs.Instances.{IsLimited, khz_in}
use Rattle.rf_rules.specs.Searches.{lane_of, last_coefficient}
use Rattle.rf_rules.proofs.TupleLaws.{All-push, map-upto, upto-zero}
use Rattle.rf_rules.proofs.lane.make_lanes.Goals as goal
use Rattle.rf_rules.proofs.lane.make_lanes.Goals.{After-margin}

pub loop-carrier-init : goal.loop-carrier-init
loop-carrier-init c = record {
  lanes = sym (ap (map (lane_of c.args.show.now c.args.ats.now c.args.kind)) upto-zero);
  room = omega (arith, c.carriers-carrier-end.ensures.few);
  limited = λ k d h. absurd (omega (arith, h));
}

-- the carrier's lane
term : (c : After-margin) → to_z w64 (of_z w64 c.term.result) ≡ last_coefficient c.args.kind *ℤ pos (khz_in c.args.ats.now c.loop-carrier.carrier)
term c =
    let last : to_z w64 (of_z w64 c.coefficient-last.result) ≡ last_coefficient c.args.kind =
    to_z-of_z w64 c.coefficient-last.result (record { sfits = c.coefficient-last.type_inv }) ∙ rw (← c.roles.ensures.value) c.coefficient-last.ensures.value in
    let khz : to_z w64 (of_z w64 c.khz_of-khz.result) ≡ pos (khz_in c.args.ats.now c.loop-carrier.carrier) =
    to_z-of_z w64 c.khz_of-khz.result (record { sfits = c.khz_of-khz.type_inv }) ∙ rw (← c.at.ensures) c.khz_of-khz.ensures.value in
    to_z-of_z w64 c.term.result (record { sfits = c.term.type_inv }) ∙ rw (last, khz) at c.term.ensures.value

needs : (c : After-margin) → c.margin.result ≡ asked c.args.show.now c.args.kind c.loop-carrier.carrier
needs c = c.margin.ensures ∙ sym (ap (λ o. option_map_or (λ p. margin_of p c.args.kind) o 0) c.profile_of.ensures.value)

lane : (c : After-margin) → record { term = to_z w64 (of_z w64 c.term.result); needs = c.margin.result } ≡ lane_of c.args.show.now c.args.ats.now c.args.kind c.loop-carrier.carrier
lane c = cc (term c, needs c)

pub loop-carrier-preserved : goal.loop-carrier-preserved
loop-carrier-preserved c =
    let i = c.loop-carrier.carrier in
    let ats = c.args.ats.now in
    let f = lane_of c.args.show.now ats c.args.kind in
    let inside : i < length ats = omega (arith, ap length c.carriers-carrier-end.ensures.value, c.requires, c.loop-carrier-test.true) in
    let limited : IsLimited (get_or ats i None) = rw (← c.at.ensures) (omega (arith, ap unsigned_abs c.khz_of-khz.ensures.value, c.khz_of-khz.ensures.bound)) in
    record {
      lanes = take_more_set c.loop-carrier.lanes i _ (omega (arith, c.loop-carrier.invariant.room, ap length c.carriers-carrier-end.ensures.value, c.loop-carrier-test.true)) ∙
          ap (λ zs. take i c.loop-carrier.lanes ++ zs ∷ []) (lane c) ∙ ap (λ zs. zs ++ f i ∷ []) c.loop-carrier.invariant.lanes ∙ sym (map-upto f i);
      room = rw length-set c.loop-carrier.invariant.room;
      limited = rw (take_more ats i None inside) (All-push IsLimited (take i ats) (get_or ats i None) c.loop-carrier.invariant.limited limited);
    }

pub returns-clause-limited : goal.returns-clause-limited
returns-clause-limited c =
    let all : take c.loop-carrier.carrier c.args.ats.now ≡ c.args.ats.now =
    take_all c.loop-carrier.carrier c.args.ats.now (omega (arith, ap length c.carriers-carrier-end.ensures.value, c.requires, c.loop-carrier-test.false)) in
    rw all at c.loop-carrier.invariant.limited
