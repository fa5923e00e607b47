use Rattle.rf_zones.specs.declared.mask.TheConstants.{MAX_CARRIERS}
use Rattle.rf_props.proofs.FlagLemmas.{none_flagged}
use Rattle.rf_props.proofs.flags.no_flags.Goals as goal

pub returns : goal.returns
returns c = λ x. none_flagged MAX_CARRIERS x
