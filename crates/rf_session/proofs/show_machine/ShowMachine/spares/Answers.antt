use Rattle.std.proofs.Common.{◌≡◌, ◌+◌, false, length, rules, Some, nat_lt, position}
use Rattle.rf_show.specs.Limits.{most_carriers}
use Rattle.rf_show.specs.Show.{is_profile}
use Rattle.rf_zones.specs.Zones.{zone_of}
use Rattle.rf_spares.specs.Texts.{spares_text_of}
use Rattle.rf_session.specs.Shows.{most_spares}
use Rattle.rf_session.proofs.SparesLaws.{spares_text_is}
use Rattle.rf_session.proofs.show_machine.ShowMachine.spares.Goals as goal

pub returns-clause-answer : goal.returns-clause-answer
returns-clause-answer c =
    let here : c.show-show.result.now ≡ c.args.self.now.show = search rules in
    let p : position (is_profile c.args.profile) c.args.self.now.show.profiles ≡ Some c.in-Some.place = search (rules, here) in
    let z : zone_of c.args.self.now.show.zones c.args.zone ≡ Some c.in-Some-find.number = search (rules, here) in
    let few : nat_lt most_spares c.args.count ≡ false = search rules in
    let room : nat_lt most_carriers (length c.args.self.now.show.carriers + c.args.count) ≡ false = search (rules, here) in
    let text : c.in_ok-text.text.items ≡ spares_text_of c.args.self.now.show c.in-Some.place c.in-Some-find.number c.args.count =
    spares_text_is c.args.self.now.show c.show-show.result.now c.in-Some.place c.in-Some-find.number c.args.count c.in_ok-found.found c.in_ok-text.text.items here
    c.in_ok-found.ensures.free c.in_ok-found.ensures.taken c.in_ok-text.ensures in
    rw (p, z, few, room, ← text) c.text.ensures
