use Rattle.std.proofs.Common.{◌∙◌, ◌<◌, w64, length, sym, arith}
use Rattle.std.proofs.lemmas.Bool.{not-true, true≢false}
use Rattle.std.proofs.lemmas.Int.{to_z-of_z}
use Rattle.rf_problem.specs.Problem.{case_of}
use Rattle.rf_problem.proofs.CaseLaws.{count_is}
use Rattle.rf_propagate.proofs.BothLaws.{grows_on}
use Rattle.rf_props.proofs.KeptLemmas.{GoesOn}
use Rattle.rf_props.proofs.SweepLemmas.{striking_start, striking_past, striking_more, struck_all, clear_within}
use Rattle.rf_props.proofs.LiveLemmas.{none_more, none_on, none_at_ends}
use Rattle.rf_props.proofs.sweep.Sweep.strike_within.Goals as goal
use Rattle.rf_props.proofs.sweep.Sweep.strike_within.Goals.{then-none, else-none}

pub loop-target-init : goal.loop-target-init
loop-target-init c =
    let s = c.args.self.now in
    (striking_start (case_of s.problem.now) s.kind s.place c.args.others.now c.args.freqs.now c.args.trail.now c.requires.fixed, λ _. record { each = λ x none. absurd (omega arith) })

pub loop-target-preserved-then-not-has_some_within : goal.loop-target-preserved-then-not-has_some_within
loop-target-preserved-then-not-has_some_within c =
    let s = c.args.self.now in
    let counts = c.loop-target.invariant.0.on.counts ∙ c.requires.counts in
    let known : c.loop-target.target < length (case_of s.problem.now).carriers = omega (arith, count_is s.problem.now, c.carriers-target-end.ensures.counted, c.loop-target-test.true) in
    let none = c.has_some_within.ensures c.if-not-has_some_within.true in (
      striking_past c.loop-target.invariant.0 counts
          (clear_within (case_of s.problem.now) c.loop-target.trail s.kind s.place c.args.others.now c.args.freqs.now c.args.lo c.args.hi c.loop-target.target counts known c.loop-target.invariant.0.fixed
          c.requires.within (none_at_ends (to_z-of_z w64 c.args.lo c.ranges.lo) (to_z-of_z w64 c.args.hi c.ranges.hi) none)),
      λ so. none_more (c.loop-target.invariant.1 so) none,
    )

pub returns-in_err-strike-clause-sound : goal.returns-in_err-strike-clause-sound
returns-in_err-strike-clause-sound c = λ lines. grows_on (c.loop-target.invariant.0.on.sound lines) (c.strike.ensures.sound lines)

pub loop-target-preserved : goal.loop-target-preserved
loop-target-preserved c =
    let s = c.args.self.now in
    let on : GoesOn (case_of s.problem.now) c.loop-target.trail c.strike.new.trail = record { counts = c.strike.ensures.counts; sound = c.strike.ensures.sound } in (
      striking_more c.loop-target.invariant.0 (c.loop-target.invariant.0.on.counts ∙ c.requires.counts) on c.strike.ensures.rows c.in_ok-strike.ensures.clear,
      λ so. elim c.if-none.branch [
        | then-none w ↦ none_more (none_on on (c.loop-target.invariant.1 w.if-none.true)) (w.has_some_within-then-none.ensures (not-true _ (sym w.none-is ∙ so)))
        | else-none w ↦ absurd (true≢false (sym so ∙ w.none-is ∙ w.if-none.false))
      ],
    )

pub returns-clause-swept : goal.returns-clause-swept
returns-clause-swept c =
    let s = c.args.self.now in
    struck_all (case_of s.problem.now) s.single.now s.kind s.place c.args.others.now c.args.freqs.now c.args.trail.now c.loop-target.trail c.loop-target.target c.loop-target.invariant.0
    (c.loop-target.invariant.0.on.counts ∙ c.requires.counts) (omega (arith, count_is s.problem.now, c.carriers-target-end.ensures.counted, c.loop-target-test.false)) c.requires.others
