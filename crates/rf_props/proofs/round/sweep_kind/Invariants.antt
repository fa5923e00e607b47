use Rattle.rf_problem.specs.Problem.{case_of}
use Rattle.rf_props.specs.Sweeps.{left}
use Rattle.rf_props.specs.Live.{AreMarked}
use Rattle.rf_props.proofs.SettleLemmas.{TurnsDone}
use Rattle.rf_props.proofs.round.sweep_kind.Given as goal

abbrev pub invariant-loop-turn : goal.invariant-loop-turn
invariant-loop-turn l = TurnsDone (case_of l.problem) l.single l.kind l.initial.trail l.trail l.turn × AreMarked (case_of l.problem) (left l.trail) l.live
