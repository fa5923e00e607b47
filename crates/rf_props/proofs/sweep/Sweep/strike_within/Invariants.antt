use Rattle.std.specs.Prelude.{◌≡◌, true}
use Rattle.rf_problem.specs.Problem.{case_of}
use Rattle.rf_props.specs.Sweeps.{left}
use Rattle.rf_props.proofs.SweepLemmas.{Striking}
use Rattle.rf_props.proofs.LiveLemmas.{NoneUpTo}
use Rattle.rf_props.proofs.sweep.Sweep.strike_within.Given as goal

abbrev pub invariant-loop-target : goal.invariant-loop-target
invariant-loop-target l =
    Striking (case_of l.self.problem.now) l.self.kind l.self.place l.others l.freqs l.initial.trail l.trail l.target
    × (l.none ≡ true → NoneUpTo (case_of l.self.problem.now) (left l.trail) l.lo l.hi l.target)
