use Rattle.std.proofs.Common.{◌∙◌}
use Rattle.rf_show.specs.Limits.{most_carriers}
use Rattle.rf_spares.specs.Harms.{hears_all}
use Rattle.rf_spares.proofs.crowd.Crowd.hears_all.Goals as goal
use Rattle.rf_zones.proofs.MaskLaws.{bits-same}

pub returns : goal.returns
unfolding hears_all
returns c = c.has_all.ensures ∙ bits-same most_carriers _ _ c.args.u.now (rw c.own.ensures (c.requires.known.own c.args.size)) c.requires.taken
