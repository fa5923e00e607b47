use Rattle.std.proofs.Common.{◌<◌, ap, length, arith}
use Rattle.rf_zones.specs.Zones.{pairs, pair_place}
use Rattle.rf_zones.proofs.PairLaws.{pair_within}
use Rattle.rf_zones.proofs.zones.Zones.coupling.Goals as goal

pub at-requires : goal.at-requires
at-requires c =
    let names = ap (λ z. length z.names) c.self.view_is in
    let within : pair_place c.args.a c.args.b < pairs (length c.self.inside.names) =
    pair_within c.args.a c.args.b (length c.self.inside.names) (omega arith) (omega arith) c.if-a-b.false in
    omega (arith, c.self.invariant.paired)
