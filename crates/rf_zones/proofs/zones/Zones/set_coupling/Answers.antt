use Rattle.std.proofs.Common.{◌<◌, ap, length, arith}
use Rattle.rf_zones.specs.Zones.{pairs, pair_place}
use Rattle.rf_zones.proofs.StandLaws.{stand_set}
use Rattle.rf_zones.proofs.PairLaws.{pair_within}
use Rattle.rf_zones.proofs.ZonesLemmas.{coupling_back}
use Rattle.rf_zones.proofs.zones.Zones.set_coupling.Goals as goal

pub set-requires : goal.set-requires
set-requires c =
    let names = ap (λ z. length z.names) c.self.view_is in
    let within : pair_place c.args.a c.args.b < pairs (length c.self.inside.names) =
    pair_within c.args.a c.args.b (length c.self.inside.names) (omega arith) (omega arith) c.if-a-b.true in
    omega (arith, c.self.invariant.paired)

pub returns-then-a-b-clause-back : goal.returns-then-a-b-clause-back
returns-then-a-b-clause-back c =
    rw (c.set.ensures, c.pair_place.ensures, ← c.self.view_is) (coupling_back c.self.inside.names c.self.inside.couplings c.args.a c.args.b c.args.coupling c.if-a-b.true)

pub returns-then-a-b-clause-stand : goal.returns-then-a-b-clause-stand
returns-then-a-b-clause-stand c = λ x y x_in y_in.
    let names = ap (λ z. length z.names) c.self.view_is in
    let within : pair_place c.args.a c.args.b < pairs (length c.self.inside.names) =
    pair_within c.args.a c.args.b (length c.self.inside.names) (omega arith) (omega arith) c.if-a-b.true in
    rw (c.set.ensures, c.pair_place.ensures, ← c.self.view_is)
    (stand_set c.self.inside.names c.self.inside.couplings c.args.a c.args.b x y c.args.coupling c.if-a-b.true (omega (arith, c.self.invariant.paired)))
