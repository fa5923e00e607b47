use Rattle.std.proofs.Common.{◌-◌}
use Rattle.rf_domain.specs.declared.limits.TheConstants.{INDEX_LIMIT}
use Rattle.rf_problem.specs.Problem.{case_of}
use Rattle.rf_props.specs.Sweeps.{left}
use Rattle.rf_props.proofs.LiveLemmas.{MarksOn}
use Rattle.rf_props.proofs.live.Live.mark_left.Given as goal

abbrev pub invariant-loop-first : goal.invariant-loop-first
invariant-loop-first l = MarksOn (case_of l.problem) (left l.trail) l.initial.self l.self l.carrier l.from

abbrev pub decreases-loop-first : goal.decreases-loop-first
decreases-loop-first l = INDEX_LIMIT - l.from
