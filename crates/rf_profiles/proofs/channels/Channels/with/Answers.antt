use Rattle.std.proofs.Common.{ap, arith, length}
use Rattle.rf_profiles.proofs.ChannelsLemmas.{IsChannels-push, length-channels-push}
use Rattle.rf_profiles.proofs.channels.Channels.with.Goals as goal

pub pushed-requires : goal.pushed-requires
pushed-requires c =
    let rs = c.args.self.now in
    IsChannels-push rs c.args.range c.ranges-2.ensures.form c.from.ensures.form (omega arith)
    (omega (arith, length-channels-push rs c.args.range, c.count.ensures, c.count-2.ensures))
    (omega (arith, ap length c.ranges-2.ensures.value))
