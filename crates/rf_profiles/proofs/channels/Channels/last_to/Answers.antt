use Rattle.std.proofs.Common.{sym, ◌∙◌, ap}
use Rattle.rf_profiles.proofs.ChannelsLemmas.{last_to_is}
use Rattle.rf_profiles.proofs.channels.Channels.last_to.Goals as goal

pub returns : goal.returns
returns c =
    let i = c.index-ranges-ranges in
    rw (← c.ranges-ranges.ensures.value)
    (c.to.ensures.value ∙ ap (λ r. r.to) i.is ∙ sym (last_to_is c.ranges-ranges.result.now 0 i.result (rw c.ranges-ranges.ensures.value c.ranges-ranges.ensures.form.some)))
