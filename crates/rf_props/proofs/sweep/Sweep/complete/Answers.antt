use Rattle.std.proofs.Common.{◌≡◌, ◌∙◌, ◌+◌, ◌<◌, ℕ, List, length, take, get_or, sym, subst, arith, length-take-le}
use Rattle.std.proofs.lemmas.List.Elements.{All-push}
use Rattle.rf_problem.specs.Problem.{case_of}
use Rattle.rf_problem.proofs.CaseLaws.{count_is}
use Rattle.rf_propagate.proofs.BothLaws.{grows_on}
use Rattle.rf_props.specs.Sweeps.{left, IsSwept}
use Rattle.rf_props.specs.Flags.{AreFresh}
use Rattle.rf_props.proofs.KeptLemmas.{ready_on, few_on}
use Rattle.rf_props.proofs.SweepLemmas.{sweeping_start, sweeping_past, sweeping_more, twice_swept, fresh_swept, role_more}
use Rattle.rf_props.proofs.sweep.Sweep.complete.Goals as goal

pub loop-carrier-init : goal.loop-carrier-init
loop-carrier-init c =
    let s = c.args.self.now in
    (sweeping_start (case_of s.problem.now) s.single.now s.kind s.place (take c.args.depth c.args.others) (λ i. get_or s.fresh.now i 0) c.args.trail.now, c.requires.live)

pub loop-carrier-preserved-then-is_among : goal.loop-carrier-preserved-then-is_among
loop-carrier-preserved-then-is_among c =
    let s = c.args.self.now in
    let counts = c.loop-carrier.invariant.0.on.counts ∙ c.requires.counts in
    let swept = twice_swept (case_of s.problem.now) c.loop-carrier.trail s.single.now s.kind s.place (take c.args.depth c.args.others) (get_or s.fresh.now c.loop-carrier.carrier-index 0) counts
    (sym c.is_among.ensures ∙ c.if-is_among.true) in
    (sweeping_past c.loop-carrier.invariant.0 counts (few_on c.loop-carrier.invariant.0.on c.requires.ready.few) swept, c.loop-carrier.invariant.1)

pub strike_all-requires-clause-known : goal.strike_all-requires-clause-known
strike_all-requires-clause-known c =
    let s = c.args.self.now in
    let four : length c.args.others ≡ 4 = omega arith in
    let e = role_more c.args.others c.args.depth (get_or s.fresh.now c.loop-carrier.carrier-index 0) (c.args.depth + 1) four (omega arith) (omega (arith, c.requires.depth)) in
    let there = c.requires.fresh.there c.loop-carrier.carrier-index 0 c.loop-carrier-test.true in
    rw e (All-push (λ x. x < length s.problem.now.carriers) (take c.args.depth c.args.others) (get_or s.fresh.now c.loop-carrier.carrier-index 0) c.requires.carriers there)

pub returns-in_err-strike_all-clause-sound : goal.returns-in_err-strike_all-clause-sound
returns-in_err-strike_all-clause-sound c = λ lines. grows_on (c.loop-carrier.invariant.0.on.sound lines) (c.strike_all.ensures.sound lines)

pub loop-carrier-preserved : goal.loop-carrier-preserved
loop-carrier-preserved c =
    let s = c.args.self.now in
    let four : length c.args.others ≡ 4 = omega arith in
    let counts = c.loop-carrier.invariant.0.on.counts ∙ c.requires.counts in
    let e = role_more c.args.others c.args.depth (get_or s.fresh.now c.loop-carrier.carrier-index 0) (c.args.depth + 1) four (omega arith) (omega (arith, c.requires.depth)) in (
      sweeping_more c.loop-carrier.invariant.0 counts (few_on c.loop-carrier.invariant.0.on c.requires.ready.few) (record { counts = c.strike_all.ensures.counts; sound = c.strike_all.ensures.sound })
          (subst (λ (xs : List ℕ). IsSwept (case_of s.problem.now) (left c.strike_all.new.trail) s.single.now s.kind s.place xs) e c.in_ok-strike_all.ensures.swept),
      c.in_ok-strike_all.ensures.live,
    )

pub returns-clause-swept : goal.returns-clause-swept
returns-clause-swept c =
    let s = c.args.self.now in
    let four : length c.args.others ≡ 4 = omega arith in
    let size : length (take c.args.depth c.args.others) ≡ c.args.depth = length-take-le c.args.depth c.args.others (omega (arith, four, c.requires.depth)) in
    let on = c.loop-carrier.invariant.0.on in
    fresh_swept (case_of s.problem.now) c.args.trail.now c.loop-carrier.trail s.single.now s.known.now s.kind s.place (take c.args.depth c.args.others) s.fresh.now c.loop-carrier.carrier-index
    (on.counts ∙ c.requires.counts) (subst (λ (n : ℕ). AreFresh n s.single.now s.known.now s.fresh.now) (sym (count_is s.problem.now)) c.requires.fresh)
    (ready_on on c.requires.counts c.requires.ready).done (omega (arith, size, c.requires.last)) c.requires.done c.loop-carrier.invariant.0 (omega arith)
