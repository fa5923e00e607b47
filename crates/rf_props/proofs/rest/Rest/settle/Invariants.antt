use Rattle.rf_problem.specs.Problem.{case_of}
use Rattle.rf_props.specs.Flags.{HaveFew}
use Rattle.rf_props.specs.Sweeps.{left, AreKindsDone}
use Rattle.rf_props.specs.Rests.{Rests}
use Rattle.rf_props.proofs.KeptLemmas.{GoesOn}
use Rattle.rf_props.proofs.SettleLemmas.{open_of}
use Rattle.rf_props.proofs.rest.Rest.settle.Given as goal

abbrev pub invariant-rounds : goal.invariant-rounds
invariant-rounds l =
    GoesOn (case_of l.problem) l.initial.trail l.trail
    × (Rests (case_of l.problem) l.kinds l.self.domains
    × (HaveFew (left l.trail) l.known
    × AreKindsDone (case_of l.problem) (left l.trail) l.known l.kinds))

-- how many carriers have two indices or more
abbrev pub decreases-rounds : goal.decreases-rounds
decreases-rounds l = open_of l.trail
