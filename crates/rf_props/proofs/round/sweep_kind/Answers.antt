use Rattle.std.proofs.Common.{◌∙◌, ℕ, ◌<◌, [], arith, subst}
use Rattle.rf_terms.specs.Kinds.{roles_of}
use Rattle.rf_problem.specs.Problem.{case_of}
use Rattle.rf_propagate.specs.Laws.{same}
use Rattle.rf_propagate.proofs.BothLaws.{grows_on}
use Rattle.rf_props.specs.Sweeps.{left, IsSwept, IsReach}
use Rattle.rf_props.proofs.KeptLemmas.{few_on, ready_on}
use Rattle.rf_props.proofs.SettleLemmas.{turns_start, turns_more, turns_all, role_of_turn}
use Rattle.rf_props.proofs.SweepLemmas.{unasked_done}
use Rattle.rf_props.proofs.round.sweep_kind.Goals as goal

pub returns-then-reach-eq0-clause-sound : goal.returns-then-reach-eq0-clause-sound
returns-then-reach-eq0-clause-sound c = λ lines. same

pub returns-then-reach-eq0-clause-swept : goal.returns-then-reach-eq0-clause-swept
returns-then-reach-eq0-clause-swept c =
    unasked_done (case_of c.args.problem.now) c.args.trail.now c.args.single.now c.args.kind c.requires.counts
    (subst (IsReach (case_of c.args.problem.now) c.args.kind) c.if-reach-eq0.true c.reach-reach.ensures)

pub loop-turn-init : goal.loop-turn-init
loop-turn-init c = (turns_start (case_of c.args.problem.now) c.args.single.now c.args.kind c.args.trail.now, c.requires.live)

pub extend-requires-clause-ready : goal.extend-requires-clause-ready
extend-requires-clause-ready c =
    let low : c.loop-turn.turn < roles_of c.args.kind = omega (arith, c.loop-turn-test.true, c.roles-turn-end.ensures.value) in
    let known : IsSwept (case_of c.args.problem.now) (left c.args.trail.now) c.args.known.now c.args.kind c.target_role.result [] =
    c.requires.done.each c.target_role.result (omega (arith, c.target_role.ensures, role_of_turn c.args.kind c.loop-turn.turn low)) in
    ready_on c.loop-turn.invariant.0.on c.requires.counts (record { few = c.requires.few; few_known = c.requires.few_known; done = known })

pub returns-in_err-extend-clause-sound : goal.returns-in_err-extend-clause-sound
returns-in_err-extend-clause-sound c = λ lines. grows_on (c.loop-turn.invariant.0.on.sound lines) (c.extend.ensures.sound lines)

pub loop-turn-preserved : goal.loop-turn-preserved
loop-turn-preserved c =
    let next = turns_more c.loop-turn.invariant.0 (c.loop-turn.invariant.0.on.counts ∙ c.requires.counts) (few_on c.loop-turn.invariant.0.on c.requires.few) in
    let swept = subst (λ (x : ℕ). IsSwept (case_of c.args.problem.now) (left c.extend.new.trail) c.args.single.now c.args.kind x []) c.target_role.ensures c.in_ok-extend.ensures.swept in
    (next (record { counts = c.extend.ensures.counts; sound = c.extend.ensures.sound }) swept, c.in_ok-extend.ensures.live)

pub returns-clause-swept : goal.returns-clause-swept
returns-clause-swept c = turns_all c.loop-turn.invariant.0 (omega (arith, c.loop-turn-test.false, c.roles-turn-end.ensures.value))
