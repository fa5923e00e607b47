use Rattle.std.proofs.Common.{◌≡◌, ◌<◌, length, ap, arith, get_or, Some}
use Rattle.std.proofs.lemmas.List.{length-map}
use Rattle.rf_domain.specs.Sets.{has}
use Rattle.rf_log.specs.Case.{count_of}
use Rattle.rf_log.specs.Box.{only_index}
use Rattle.rf_problem.specs.Problem.{case_of}
use Rattle.rf_problem.proofs.CaseLaws.{count_is}
use Rattle.rf_props.proofs.SingleLemmas.{single_of, many_of, single_is}
use Rattle.rf_props.proofs.single.single.Goals as goal
use Rattle.rf_props.proofs.single.single.Goals.{In-Some}
use Rattle.rf_log.proofs.CaseLaws.{counts_length}

pub only-requires : goal.only-requires
only-requires c =
    let sets = c.args.sets.now in
    omega (arith, length-map sets length, ap length c.requires.counts, counts_length (case_of c.args.problem.now), count_is c.args.problem.now, c.requires.carrier)

found : (c : In-Some) → (only_index (case_of c.args.problem.now) (has c.args.sets.now) c.args.carrier ≡ Some c.in-Some.k) × (c.in-Some.k < count_of (case_of c.args.problem.now) c.args.carrier)
found c = single_of (case_of c.args.problem.now) c.args.sets.now c.args.carrier c.in-Some.k c.requires.counts c.in-Some.ensures

pub bounds-freqs-k : goal.bounds-freqs-k
bounds-freqs-k c = omega (arith, (found ((goal.at.bounds-freqs-k c).In-Some)).1, ap length c.freqs.ensures.value)

pub returns-in-Some : goal.returns-in-Some
returns-in-Some c =
    let one = found ((goal.at.returns-in-Some c).In-Some) in
    single_is (case_of c.args.problem.now) (has c.args.sets.now) c.args.carrier c.in-Some.k _ one.0
    (ap (λ fs. get_or fs c.in-Some.k 0) c.freqs.ensures.value)
    (c.freqs.ensures.below c.in-Some.k 0 (omega (arith, one.1, ap length c.freqs.ensures.value)))

pub returns-in-None : goal.returns-in-None
returns-in-None c = many_of (case_of c.args.problem.now) c.args.sets.now c.args.carrier c.requires.counts c.in-None.ensures
