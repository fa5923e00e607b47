use Rattle.rf_problem.specs.Problem.{case_of}
use Rattle.rf_props.specs.Sweeps.{left}
use Rattle.rf_props.proofs.RestLemmas.{none_few, none_done, known_few, known_done}
use Rattle.rf_props.proofs.rest.Rest.known.Goals as goal

pub returns-in_default-clause-few : goal.returns-in_default-clause-few
returns-in_default-clause-few c = none_few (left c.args.trail.now) c.no_flags.result c.no_flags.ensures

pub returns-in_default-clause-done : goal.returns-in_default-clause-done
returns-in_default-clause-done c = λ kinds _. none_done (case_of c.args.problem.now) c.args.trail.now c.no_flags.result kinds c.requires.counts c.no_flags.ensures

pub returns-then-not-is_within-clause-few : goal.returns-then-not-is_within-clause-few
returns-then-not-is_within-clause-few c = none_few (left c.args.trail.now) c.no_flags-then-not-is_within.result c.no_flags-then-not-is_within.ensures

pub returns-then-not-is_within-clause-done : goal.returns-then-not-is_within-clause-done
returns-then-not-is_within-clause-done c = λ kinds _. none_done
    (case_of c.args.problem.now) c.args.trail.now c.no_flags-then-not-is_within.result kinds c.requires.counts c.no_flags-then-not-is_within.ensures

pub returns-clause-few : goal.returns-clause-few
returns-clause-few c =
    known_few (case_of c.args.problem.now) c.args.trail.now c.domains.result.now c.in-Some.rest c.singles_of.result c.domains.ensures.has (c.requires.sized.each c.in-Some.rest c.in-Some.is)
    (c.is_within.ensures.0 c.if-not-is_within.false) c.singles_of.ensures

pub returns-clause-done : goal.returns-clause-done
returns-clause-done c = λ kinds rests.
    known_done (case_of c.args.problem.now) c.args.trail.now c.domains.result.now c.in-Some.rest c.singles_of.result kinds c.requires.counts c.domains.ensures.has
    (c.requires.sized.each c.in-Some.rest c.in-Some.is)
    (c.is_within.ensures.0 c.if-not-is_within.false) c.singles_of.ensures (rests.done c.in-Some.rest c.in-Some.is)
