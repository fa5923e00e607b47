use Rattle.std.proofs.Common.{◌≡◌, ◌∙◌, ◌+◌, ◌<◌, ℕ, List, length, take, sym, subst, arith, length-take-le}
use Rattle.std.proofs.lemmas.List.Elements.{All-push}
use Rattle.rf_terms.specs.Kinds.{roles_of}
use Rattle.rf_problem.specs.Problem.{case_of}
use Rattle.rf_problem.proofs.CaseLaws.{count_is}
use Rattle.rf_propagate.proofs.BothLaws.{grows_on}
use Rattle.rf_props.specs.Sweeps.{left, IsSwept}
use Rattle.rf_props.proofs.KeptLemmas.{ready_on, few_on}
use Rattle.rf_props.proofs.SweepLemmas.{sweeping_start, sweeping_past, sweeping_more, unflagged_swept, twice_swept, each_swept, role_more}
use Rattle.rf_props.proofs.sweep.Sweep.+extend.Goals as goal

pub are_flagged-requires : goal.are_flagged-requires
are_flagged-requires t c = λ k d low. omega (arith, c.requires.known k d low, c.carriers-count.ensures.counted, c.carriers-count.ensures.few)

pub loop-carrier-init : goal.loop-carrier-init
loop-carrier-init t c =
    let s = c.args.self.now in
    (sweeping_start (case_of s.problem.now) s.single.now s.kind s.place (take c.args.depth c.args.others) (λ x. x) c.args.trail.now, c.requires.live)

pub loop-carrier-preserved-then-not-self-carrier : goal.loop-carrier-preserved-then-not-self-carrier
loop-carrier-preserved-then-not-self-carrier t c =
    let s = c.args.self.now in
    let counts = c.loop-carrier.invariant.0.on.counts ∙ c.requires.counts in
    let swept = unflagged_swept (case_of s.problem.now) c.loop-carrier.trail s.single.now s.kind s.place (take c.args.depth c.args.others) c.loop-carrier.carrier counts c.if-not-self-carrier.true in
    (sweeping_past c.loop-carrier.invariant.0 counts (few_on c.loop-carrier.invariant.0.on c.requires.ready.few) swept, c.loop-carrier.invariant.1)

pub loop-carrier-preserved-then-is_among : goal.loop-carrier-preserved-then-is_among
loop-carrier-preserved-then-is_among t c =
    let s = c.args.self.now in
    let counts = c.loop-carrier.invariant.0.on.counts ∙ c.requires.counts in
    let swept = twice_swept (case_of s.problem.now) c.loop-carrier.trail s.single.now s.kind s.place (take c.args.depth c.args.others) c.loop-carrier.carrier counts
    (sym c.is_among.ensures ∙ c.if-is_among.true) in
    (sweeping_past c.loop-carrier.invariant.0 counts (few_on c.loop-carrier.invariant.0.on c.requires.ready.few) swept, c.loop-carrier.invariant.1)

pub extend-requires : goal.extend-requires
extend-requires t c =
    let s = c.args.self.now in
    let four : length c.args.others ≡ 4 = omega arith in
    let deep : c.args.depth + 1 < roles_of s.kind = omega (arith, c.requires.depth, c.roles.ensures.value) in
    let e = role_more c.args.others c.args.depth c.loop-carrier.carrier (roles_of s.kind) four c.requires.depth (omega (arith, c.roles.ensures.value, c.roles.ensures.bounds.1)) in
    let low : c.loop-carrier.carrier < length s.problem.now.carriers = omega (arith, c.carriers-count.ensures.counted) in (
      omega (arith, deep, c.decreases),
      (
        c.loop-carrier.invariant.0.on.counts ∙ c.requires.counts,
        (
          c.loop-carrier.invariant.1,
          (
            c.requires.place,
            (
              c.requires.reach,
              (
                ready_on c.loop-carrier.invariant.0.on c.requires.counts c.requires.ready,
                (
                  c.requires.fresh,
                  (
                    deep,
                    rw e (All-push (λ x. x < length s.problem.now.carriers) (take c.args.depth c.args.others) c.loop-carrier.carrier c.requires.known low),
                  ),
                ),
              ),
            ),
          ),
        ),
      ),
    )

pub returns-in_err-extend-clause-sound : goal.returns-in_err-extend-clause-sound
returns-in_err-extend-clause-sound t c = λ lines. grows_on (c.loop-carrier.invariant.0.on.sound lines) (c.extend.ensures.sound lines)

pub loop-carrier-preserved : goal.loop-carrier-preserved
loop-carrier-preserved t c =
    let s = c.args.self.now in
    let four : length c.args.others ≡ 4 = omega arith in
    let counts = c.loop-carrier.invariant.0.on.counts ∙ c.requires.counts in
    let e = role_more c.args.others c.args.depth c.loop-carrier.carrier (roles_of s.kind) four c.requires.depth (omega (arith, c.roles.ensures.value, c.roles.ensures.bounds.1)) in (
      sweeping_more c.loop-carrier.invariant.0 counts (few_on c.loop-carrier.invariant.0.on c.requires.ready.few) (record { counts = c.extend.ensures.counts; sound = c.extend.ensures.sound })
          (subst (λ (xs : List ℕ). IsSwept (case_of s.problem.now) (left c.extend.new.trail) s.single.now s.kind s.place xs) e c.in_ok-extend.ensures.swept),
      c.in_ok-extend.ensures.live,
    )

pub returns-clause-swept : goal.returns-clause-swept
returns-clause-swept t c =
    let s = c.args.self.now in
    let four : length c.args.others ≡ 4 = omega arith in
    let size : length (take c.args.depth c.args.others) ≡ c.args.depth =
    length-take-le c.args.depth c.args.others (omega (arith, four, c.requires.depth, c.roles.ensures.value, c.roles.ensures.bounds.1)) in
    each_swept (case_of s.problem.now) c.loop-carrier.trail s.single.now s.kind s.place (take c.args.depth c.args.others) (c.loop-carrier.invariant.0.on.counts ∙ c.requires.counts)
    (λ whole. absurd (omega (arith, size, whole, c.roles.ensures.value)))
    (λ r there. c.loop-carrier.invariant.0.swept r (omega (arith, there, count_is s.problem.now, c.carriers-count.ensures.counted, c.loop-carrier-test.false)))
