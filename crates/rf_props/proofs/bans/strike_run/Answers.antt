use Rattle.std.proofs.Common.{arith}
use Rattle.rf_problem.specs.Problem.{case_of}
use Rattle.rf_propagate.specs.Laws.{same}
use Rattle.rf_props.proofs.BanLemmas.{IsRun, run_barred}
use Rattle.rf_props.proofs.bans.strike_run.Goals as goal
use Rattle.rf_props.proofs.bans.strike_run.Goals.{After-remove_banned}

pub returns-then-first-count-clause-sound : goal.returns-then-first-count-clause-sound
returns-then-first-count-clause-sound c = λ lines. same

pub returns-then-not-is_left-clause-sound : goal.returns-then-not-is_left-clause-sound
returns-then-not-is_left-clause-sound c = λ lines. same

run : (c : After-remove_banned) → IsRun (case_of c.args.problem.now) c.flags-flags.result.now c.args.carrier c.args.from c.next_flag-first.result c.next_flag-end.result
run c = record {
  is = c.flags-flags.ensures.value;
  size = c.flags-flags.ensures.count;
  banned = c.next_flag-first.ensures;
  ends = c.next_flag-end.ensures;
  some = omega (arith, c.flags-flags.ensures.count, c.count-count.ensures.value);
}

pub returns-in_err-remove_banned-clause-sound : goal.returns-in_err-remove_banned-clause-sound
returns-in_err-remove_banned-clause-sound c = λ lines.
    c.remove_banned.ensures.sound (case_of c.args.problem.now) lines c.requires.counts
    (run_barred (case_of c.args.problem.now) c.flags-flags.result.now c.args.carrier c.args.from c.next_flag-first.result c.next_flag-end.result
    (run ((goal.at.returns-in_err-remove_banned-clause-sound c).After-remove_banned)))

pub returns-clause-sound : goal.returns-clause-sound
returns-clause-sound c = λ lines.
    c.remove_banned.ensures.sound (case_of c.args.problem.now) lines c.requires.counts
    (run_barred (case_of c.args.problem.now) c.flags-flags.result.now c.args.carrier c.args.from c.next_flag-first.result c.next_flag-end.result
    (run ((goal.at.returns-clause-sound c).After-remove_banned)))
