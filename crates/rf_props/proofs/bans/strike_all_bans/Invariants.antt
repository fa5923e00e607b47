use Rattle.rf_problem.specs.Problem.{case_of}
use Rattle.rf_props.proofs.BanLemmas.{BansDone}
use Rattle.rf_props.proofs.bans.strike_all_bans.Given as goal

abbrev pub invariant-loop-carrier : goal.invariant-loop-carrier
invariant-loop-carrier l = BansDone (case_of l.problem) l.initial.trail l.trail l.carrier
