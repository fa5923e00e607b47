use Rattle.std.proofs.Common.{◌-◌}
use Rattle.rf_terms.specs.Kinds.{roles_of}
use Rattle.rf_props.proofs.windows.Windows.+extend.Given as goal

abbrev pub decreases-extend : goal.decreases-extend
decreases-extend l = roles_of l.self.now.kind - l.depth
