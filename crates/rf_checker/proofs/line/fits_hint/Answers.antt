use Rattle.rf_show.specs.Case.{case_of}
use Rattle.rf_checker.proofs.WalkLemmas.{rule_known}
use Rattle.rf_checker.proofs.line.fits_hint.Goals as goal

pub fits-requires-in-Rule : goal.fits-requires-in-Rule
fits-requires-in-Rule c = rule_known (case_of c.args.show.now) c.args.hint.now c.in-Rule.kind c.in-Rule.roles c.in-Rule.target c.in-Rule.lo c.in-Rule.hi
    c.requires.target c.requires.known c.in-Rule.is
