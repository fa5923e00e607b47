use Rattle.std.proofs.Common.{arith}
use Rattle.rf_problem.specs.Problem.{case_of}
use Rattle.rf_problem.proofs.CaseLaws.{count_is}
use Rattle.rf_props.proofs.ApplyLemmas.{range_carrier}
use Rattle.rf_props.proofs.apply.apply_ban.Goals as goal

pub is_barred-requires-clause-carrier : goal.is_barred-requires-clause-carrier
is_barred-requires-clause-carrier c =
    omega (arith, range_carrier (case_of c.args.problem.now) c.args.carrier c.args.lo c.args.hi (c.is_range.ensures.0 c.if-not-is_range.false), count_is c.args.problem.now)
