use Rattle.std.proofs.Common.{FitsSigned, ◌∙◌, Ok, w64, length, ap, arith, rules}
use Rattle.std.proofs.lemmas.Int.{to_z-of_z}
use Rattle.std.proofs.lemmas.List.{length-map}
use Rattle.rf_problem.specs.Problem.{case_of}
use Rattle.rf_propagate.specs.Laws.{same}
use Rattle.rf_props.specs.Sweeps.{left, sole_freq}
use Rattle.rf_props.proofs.SweepLemmas.{many_swept, harmless_swept, far_swept}
use Rattle.rf_props.proofs.LiveLemmas.{marked_on, far_within, within_at, unmarked_within}
use Rattle.rf_props.proofs.sweep.Sweep.strike_all.Goals as goal

pub returns-in-None-clause-sound : goal.returns-in-None-clause-sound
returns-in-None-clause-sound c = λ lines. same

pub returns-in-None-clause-swept : goal.returns-in-None-clause-swept
returns-in-None-clause-swept c =
    let s = c.args.self.now in
    many_swept (case_of s.problem.now) c.args.trail.now s.single.now s.kind s.place c.args.others.now c.requires.counts c.in-None.ensures

pub returns-in-None-window-clause-sound : goal.returns-in-None-window-clause-sound
returns-in-None-window-clause-sound c = λ lines. same

pub returns-in-None-window-clause-swept : goal.returns-in-None-window-clause-swept
returns-in-None-window-clause-swept c =
    let s = c.args.self.now in
    harmless_swept (case_of s.problem.now) c.args.trail.now s.single.now s.kind s.place c.reach_of.result c.args.others.now _ c.requires.counts c.requires.others
    c.in-Some.ensures.fixed c.reach_of.ensures
    c.in-None-window.ensures

pub returns-then-is_far-clause-sound : goal.returns-then-is_far-clause-sound
returns-then-is_far-clause-sound c = λ lines. same

pub returns-then-is_far-clause-swept : goal.returns-then-is_far-clause-swept
returns-then-is_far-clause-swept c =
    let s = c.args.self.now in
    let lo = c.in-Some-window.range.0 in
    let hi = c.in-Some-window.range.1 in
    let lo_fits : FitsSigned w64 lo = search rules in
    let hi_fits : FitsSigned w64 hi = search rules in
    far_swept (case_of s.problem.now) c.args.trail.now s.single.now s.kind s.place c.reach_of.result c.args.others.now _ lo hi c.requires.counts c.requires.others
    c.in-Some.ensures.fixed c.reach_of.ensures
    c.in-Some-window.ensures.1
    (within_at (to_z-of_z w64 lo lo_fits) (to_z-of_z w64 hi hi_fits)
    (far_within (case_of s.problem.now) (left c.args.trail.now) c.args.live.now _ _ c.requires.live (c.is_far.ensures c.if-is_far.true)))

pub returns-then-branch-clause-live : goal.returns-then-branch-clause-live
returns-then-branch-clause-live c =
    let s = c.args.self.now in
    unmarked_within (case_of s.problem.now) (left c.strike_within.new.trail) c.args.live.now c.unmark.new.self _ _
    (marked_on (record { counts = c.strike_within.ensures.counts; sound = c.strike_within.ensures.sound }) c.requires.live)
    (c.strike_within.ensures.none (c.in_ok-strike_within.was ∙ ap Ok c.if-branch.true)) c.unmark.ensures

pub returns-else-branch-clause-live : goal.returns-else-branch-clause-live
returns-else-branch-clause-live c = marked_on (record { counts = c.strike_within.ensures.counts; sound = c.strike_within.ensures.sound }) c.requires.live

pub window-requires-clause-others : goal.window-requires-clause-others
window-requires-clause-others c =
    let s = c.args.self.now in
    omega (arith, ap length c.in-Some.ensures.fixed.known, length-map c.args.others.now (sole_freq (case_of s.problem.now) (left c.args.trail.now)), c.requires.others)
