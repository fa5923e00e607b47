use Rattle.std.proofs.Common.{refl}
use Rattle.rf_terms.proofs.KindLaws.{every_kind}
use Rattle.rf_props.proofs.engine.settle.Goals as goal

pub returns-clause-closed : goal.returns-clause-closed
returns-clause-closed c = λ path quiet on. c.settle.ensures.closed path quiet (record { each = every_kind }) refl on
