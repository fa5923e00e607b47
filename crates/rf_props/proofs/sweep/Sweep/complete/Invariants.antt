use Rattle.std.proofs.Common.{take, get_or}
use Rattle.rf_problem.specs.Problem.{case_of}
use Rattle.rf_props.specs.Sweeps.{left}
use Rattle.rf_props.specs.Live.{AreMarked}
use Rattle.rf_props.proofs.SweepLemmas.{Sweeping}
use Rattle.rf_props.proofs.sweep.Sweep.complete.Given as goal

abbrev pub invariant-loop-carrier : goal.invariant-loop-carrier
invariant-loop-carrier l =
    Sweeping (case_of l.self.problem.now) l.self.single.now l.self.kind l.self.place (take l.depth l.others) (λ i. get_or l.self.fresh.now i 0) l.initial.trail l.trail l.carrier-index
    × AreMarked (case_of l.self.problem.now) (left l.trail) l.live
