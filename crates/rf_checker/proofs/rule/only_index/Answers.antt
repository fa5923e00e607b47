use Rattle.std.proofs.Common.{arith}
use Rattle.rf_show.specs.Case.{case_of}
use Rattle.rf_checker.proofs.BoxLemmas.{read_at}
use Rattle.rf_checker.proofs.RuleLemmas.{only_is}
use Rattle.rf_checker.proofs.rule.only_index.Goals as goal

pub returns : goal.returns
returns c = only_is (case_of c.args.show.now) c.args.sets.now c.args.c c.only.result c.index-sets-c.result c.requires.box_for
    (read_at c.args.sets.now c.args.c c.index-sets-c.result c.index-sets-c.is (omega (arith, c.requires.known, c.requires.box_for.full))) c.only.ensures
