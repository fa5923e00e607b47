use Rattle.std.proofs.Common.{take, ◌-◌}
use Rattle.rf_terms.specs.Kinds.{roles_of}
use Rattle.rf_problem.specs.Problem.{case_of}
use Rattle.rf_props.specs.Sweeps.{left}
use Rattle.rf_props.specs.Live.{AreMarked}
use Rattle.rf_props.proofs.SweepLemmas.{Sweeping}
use Rattle.rf_props.proofs.sweep.Sweep.+extend.Given as goal

abbrev pub decreases-extend : goal.decreases-extend
decreases-extend l = roles_of l.self.now.kind - l.depth

abbrev pub invariant-loop-carrier : goal.invariant-loop-carrier
invariant-loop-carrier l =
    Sweeping (case_of l.self.problem.now) l.self.single.now l.self.kind l.self.place (take l.depth l.others) (λ c. c) l.initial.trail l.trail l.carrier
    × AreMarked (case_of l.self.problem.now) (left l.trail) l.live
