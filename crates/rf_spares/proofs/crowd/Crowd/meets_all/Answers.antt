use Rattle.std.proofs.Common.{◌∙◌}
use Rattle.rf_show.specs.Limits.{most_carriers}
use Rattle.rf_spares.proofs.crowd.Crowd.meets_all.Goals as goal
use Rattle.rf_zones.proofs.MaskLaws.{bits-same}

pub returns : goal.returns
returns c = c.has_all.ensures ∙ bits-same most_carriers _ _ c.args.u.now (rw c.masks.ensures (c.requires.known.hears c.args.size c.args.a c.requires.there)) c.requires.taken
