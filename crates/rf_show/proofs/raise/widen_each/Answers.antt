use Rattle.std.proofs.Common.{◌<◌, length, arith}
use Rattle.rf_show.proofs.RaisedLemmas.{mapped_step}
use Rattle.rf_show.proofs.raise.widen_each.Goals as goal

pub loop-profile-preserved : goal.loop-profile-preserved
loop-profile-preserved c =
    let within : c.loop-profile.profile-index < length c.args.profiles.now = omega (arith, c.loop-profile-test.true) in
    mapped_step _ _ _ _ _ _ within c.loop-profile.invariant c.widen.ensures
