use Rattle.std.proofs.Common.{◌≡◌, ◌∙◌, [], true, ap, sym, subst, Some}
use Rattle.rf_log.specs.Case.{counts_of}
use Rattle.rf_problem.specs.Problem.{ProblemData, case_of}
use Rattle.rf_trail.specs.Trace.{box_of}
use Rattle.rf_propagate.specs.Laws.{IsQuiet, Extends, same}
use Rattle.rf_propagate.specs.declared.outcome.Outcome.TheVariants.{Quiet, Wiped}
use Rattle.rf_props.specs.Bans.{KeepsAllowed}
use Rattle.rf_props.proofs.BanLemmas.{bans_quiet, allowed_copy}
use Rattle.rf_props.proofs.bans.BansPropagatorProblemTheory.settle.Goals as goal

pub returns-then-is_done-clause-sound : goal.returns-then-is_done-clause-sound
returns-then-is_done-clause-sound c = same

pub returns-then-is_done-clause-quiet : goal.returns-then-is_done-clause-quiet
returns-then-is_done-clause-quiet c = λ quiet.
    let case = case_of c.problem-problem.result.now in
    let is : c.outcome_of.result ≡ Quiet = cc in
    let counts : c.args.trail.now.counts ≡ counts_of case = c.requires.counts ∙ ap (λ (p : ProblemData). counts_of (case_of p)) (sym c.problem-problem.ensures) in
    subst (λ (p : ProblemData). IsQuiet (case_of p) [] true (box_of c.args.trail.now)) c.problem-problem.ensures
    (bans_quiet case c.args.trail.now counts (c.is_done.ensures c.if-is_done.true) (c.outcome_of.ensures.quiet case counts is))

pub returns-clause-quiet : goal.returns-clause-quiet
returns-clause-quiet c = λ quiet.
    let case = case_of c.problem-problem.result.now in
    let is : c.outcome_of-2.result ≡ Quiet = cc in
    let counts : c.strike_all_bans.new.trail.counts ≡ counts_of case =
    c.in_ok-strike_all_bans.ensures.counts ∙ c.requires.counts ∙ ap (λ (p : ProblemData). counts_of (case_of p)) (sym c.problem-problem.ensures) in
    subst (λ (p : ProblemData). IsQuiet (case_of p) [] true (box_of c.strike_all_bans.new.trail)) c.problem-problem.ensures
    (bans_quiet case c.strike_all_bans.new.trail counts c.in_ok-strike_all_bans.ensures.allowed (c.outcome_of-2.ensures.quiet case counts is))

pub returns-then-is_done-clause-wiped : goal.returns-then-is_done-clause-wiped
returns-then-is_done-clause-wiped c = λ carrier wiped.
    let is : c.outcome_of.result ≡ Wiped carrier = cc in
    c.outcome_of.ensures.wiped (case_of c.args.theory.now.problem.now) carrier c.requires.counts is

pub returns-in_err-strike_all_bans-clause-sound : goal.returns-in_err-strike_all_bans-clause-sound
returns-in_err-strike_all_bans-clause-sound c =
    subst (λ (p : ProblemData). Extends (case_of p) c.args.theory.now.lines c.args.trail.now.entries c.strike_all_bans.new.trail.entries) c.problem-problem.ensures
    (c.strike_all_bans.ensures.sound c.args.theory.now.lines)

pub returns-in_err-copy-clause-sound : goal.returns-in_err-copy-clause-sound
returns-in_err-copy-clause-sound c =
    subst (λ (p : ProblemData). Extends (case_of p) c.args.theory.now.lines c.args.trail.now.entries c.strike_all_bans.new.trail.entries) c.problem-problem.ensures
    (c.strike_all_bans.ensures.sound c.args.theory.now.lines)

pub returns-clause-sound : goal.returns-clause-sound
returns-clause-sound c =
    subst (λ (p : ProblemData). Extends (case_of p) c.args.theory.now.lines c.args.trail.now.entries c.strike_all_bans.new.trail.entries) c.problem-problem.ensures
    (c.strike_all_bans.ensures.sound c.args.theory.now.lines)

pub returns-clause-fits : goal.returns-clause-fits
returns-clause-fits c =
    let case = case_of c.problem-problem.result.now in
    let counts : c.strike_all_bans.new.trail.counts ≡ counts_of case =
    c.in_ok-strike_all_bans.ensures.counts ∙ c.requires.counts ∙ ap (λ (p : ProblemData). counts_of (case_of p)) (sym c.problem-problem.ensures) in
    subst (λ (p : ProblemData). KeepsAllowed (case_of p) (Some c.in_ok-copy.field-0)) c.problem-problem.ensures
    (allowed_copy case c.strike_all_bans.new.trail c.domains.result.now _ c.in_ok-copy.ensures c.domains.ensures.sizes c.domains.ensures.has counts c.in_ok-strike_all_bans.ensures.allowed)

pub returns-clause-wiped : goal.returns-clause-wiped
returns-clause-wiped c = λ carrier wiped.
    let is : c.outcome_of-2.result ≡ Wiped carrier = cc in
    c.outcome_of-2.ensures.wiped (case_of c.args.theory.now.problem.now) carrier (c.in_ok-strike_all_bans.ensures.counts ∙ c.requires.counts) is
