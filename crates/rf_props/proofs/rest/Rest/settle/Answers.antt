use Rattle.std.proofs.Common.{◌∙◌}
use Rattle.rf_problem.specs.Problem.{case_of}
use Rattle.rf_propagate.proofs.BothLaws.{grows_on}
use Rattle.rf_props.specs.Sweeps.{left, AreAllDone}
use Rattle.rf_props.proofs.KeptLemmas.{GoesOn, goes_on, stays, few_on}
use Rattle.rf_props.proofs.SettleLemmas.{quiet_round, quiet_by, fewer_open}
use Rattle.rf_props.proofs.RestLemmas.{singles_left, few_left, rests_copy}
use Rattle.rf_props.proofs.rest.Rest.settle.Goals as goal
use Rattle.rf_props.proofs.rest.Rest.settle.Goals.{Joined-self}

pub rounds-init : goal.rounds-init
rounds-init c = (stays (case_of c.args.problem.now) c.args.trail.now, (c.requires.rests, (c.known-known.ensures.few, c.known-known.ensures.done c.args.kinds.now c.requires.rests)))

pub sweep_round-requires-clause-few : goal.sweep_round-requires-clause-few
sweep_round-requires-clause-few c =
    few_left (case_of c.args.problem.now) c.rounds.trail c.singles_of-single.result (c.rounds.invariant.0.counts ∙ c.requires.counts)
    (singles_left (case_of c.args.problem.now) c.rounds.trail c.domains.result.now c.singles_of-single.result c.domains.ensures.has c.singles_of-single.ensures)

pub returns-in_err-sweep_round-clause-sound : goal.returns-in_err-sweep_round-clause-sound
returns-in_err-sweep_round-clause-sound c = λ lines. grows_on (c.rounds.invariant.0.sound lines) (c.sweep_round.ensures.sound lines)

pub returns-in-Wiped-clause-sound : goal.returns-in-Wiped-clause-sound
returns-in-Wiped-clause-sound c = λ lines. grows_on (c.rounds.invariant.0.sound lines) (c.sweep_round.ensures.sound lines)

pub returns-in_err-copy-clause-sound : goal.returns-in_err-copy-clause-sound
returns-in_err-copy-clause-sound c = λ lines. grows_on (c.rounds.invariant.0.sound lines) (c.sweep_round.ensures.sound lines)

all_done : (c : Joined-self) → AreAllDone (case_of c.args.problem.now) (left c.sweep_round.new.trail) c.args.kinds.now
all_done c =
    let case = case_of c.args.problem.now in
    let round : GoesOn case c.rounds.trail c.sweep_round.new.trail = record { counts = c.sweep_round.ensures.counts; sound = c.sweep_round.ensures.sound } in
    quiet_round case c.args.kinds.now c.singles_of-single.result c.rounds.trail c.sweep_round.new.trail c.count_fixed.result c.count_fixed-before.result round
    (c.rounds.invariant.0.counts ∙ c.requires.counts)
    (singles_left (case_of c.args.problem.now) c.rounds.trail c.domains.result.now c.singles_of-single.result c.domains.ensures.has c.singles_of-single.ensures)
    c.in_ok-sweep_round.ensures.swept c.count_fixed.ensures c.count_fixed-before.ensures c.if-count_fixed-before.true

pub returns-then-count_fixed-before-clause-rests : goal.returns-then-count_fixed-before-clause-rests
returns-then-count_fixed-before-clause-rests c =
    let counts = c.sweep_round.ensures.counts ∙ c.rounds.invariant.0.counts ∙ c.requires.counts in
    rests_copy (case_of c.args.problem.now) c.args.kinds.now c.sweep_round.new.trail c.domains-then-count_fixed-before.result.now c.in_ok-copy.field-0 c.in_ok-copy.ensures
    c.domains-then-count_fixed-before.ensures.sizes c.domains-then-count_fixed-before.ensures.has counts (all_done c)

pub returns-then-count_fixed-before-clause-sound : goal.returns-then-count_fixed-before-clause-sound
returns-then-count_fixed-before-clause-sound c = λ lines. grows_on (c.rounds.invariant.0.sound lines) (c.sweep_round.ensures.sound lines)

pub returns-then-count_fixed-before-clause-quiet : goal.returns-then-count_fixed-before-clause-quiet
returns-then-count_fixed-before-clause-quiet c = λ asked.
    let case = case_of c.args.problem.now in
    let counts = c.sweep_round.ensures.counts ∙ c.rounds.invariant.0.counts ∙ c.requires.counts in
    quiet_by case c.args.kinds.now c.sweep_round.new.trail counts (all_done c) (c.outcome_of.ensures.quiet case counts c.in_default.is)

pub rounds-smaller : goal.rounds-smaller
rounds-smaller c =
    let case = case_of c.args.problem.now in
    let round : GoesOn case c.rounds.trail c.sweep_round.new.trail = record { counts = c.sweep_round.ensures.counts; sound = c.sweep_round.ensures.sound } in
    fewer_open case c.rounds.trail c.sweep_round.new.trail c.count_fixed.result c.count_fixed-before.result round c.count_fixed.ensures c.count_fixed-before.ensures
    c.if-count_fixed-before.false

pub rounds-preserved : goal.rounds-preserved
rounds-preserved c =
    let case = case_of c.args.problem.now in
    let round : GoesOn case c.rounds.trail c.sweep_round.new.trail = record { counts = c.sweep_round.ensures.counts; sound = c.sweep_round.ensures.sound } in
    let few = few_left case c.rounds.trail c.singles_of-single.result (c.rounds.invariant.0.counts ∙ c.requires.counts)
    (singles_left (case_of c.args.problem.now) c.rounds.trail c.domains.result.now c.singles_of-single.result c.domains.ensures.has c.singles_of-single.ensures) in
    (goes_on c.rounds.invariant.0 round, (c.rounds.invariant.1.0, (few_on round few, c.in_ok-sweep_round.ensures.swept)))
