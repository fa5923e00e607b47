use Rattle.rf_profiles.proofs.ChannelsLemmas.{pushed_is}
use Rattle.rf_profiles.proofs.channels.Channels.pushed.Goals as goal

pub invariant_of-result : goal.invariant_of-result
invariant_of-result c =
    pushed_is c.self.inside.ranges c.self.inside.len c.args.range c.self.invariant.1 c.self.invariant.2 (rw c.self.view_is c.requires)
