use Rattle.rf_show.specs.Case.{case_of}
use Rattle.rf_checker.proofs.WalkLemmas.{line_known}
use Rattle.rf_checker.proofs.line.fits_indices.Goals as goal

pub hints_fit-requires-clause-known : goal.hints_fit-requires-clause-known
hints_fit-requires-clause-known c = line_known (case_of c.args.show.now) c.args.line.now c.in-Nogood.conds c.in-Nogood.hints c.as_slice-then-conds_fit.result.now
    c.requires.known c.in-Nogood.is c.as_slice-then-conds_fit.ensures
