use Rattle.std.proofs.Common.{refl, arith, replicate}
use Rattle.rf_base.proofs.DecimalLaws.{padded_is, padded_whole}
use Rattle.rf_base.proofs.decimal.nine.Goals as goal

pub returns-clause-value : goal.returns-clause-value
returns-clause-value c = rw c.copy_from_slice.ensures.after (padded_is c.args.fraction.now (replicate 9 48) 9 c.min-count.result c.min-count.ensures refl)

pub returns-clause-whole : goal.returns-clause-whole
returns-clause-whole c =
    rw (c.copy_from_slice.ensures.after, padded_is c.args.fraction.now (replicate 9 48) 9 c.min-count.result c.min-count.ensures refl)
    (padded_whole c.args.fraction.now 9 c.requires (omega arith) (omega arith))
