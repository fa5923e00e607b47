use Rattle.std.proofs.Common.{◌-◌}
use Rattle.rf_log.specs.Case.{count_of}
use Rattle.rf_problem.specs.Problem.{case_of}
use Rattle.rf_props.proofs.BanLemmas.{RunsDone}
use Rattle.rf_props.proofs.bans.strike_bans.Given as goal

abbrev pub invariant-loop-from : goal.invariant-loop-from
invariant-loop-from l = RunsDone (case_of l.problem) l.carrier l.initial.trail l.trail l.from

abbrev pub decreases-loop-from : goal.decreases-loop-from
decreases-loop-from l = count_of (case_of l.problem) l.carrier - l.from
