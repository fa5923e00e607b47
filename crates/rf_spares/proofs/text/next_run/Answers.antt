use Rattle.std.proofs.Common.{◌<◌, arith}
use Rattle.rf_spares.specs.Runs.{flag_at}
use Rattle.rf_spares.proofs.text.next_run.Goals as goal
use Rattle.rf_profiles.proofs.RunLaws.{no_run, next_run}

pub returns-then-first-end : goal.returns-then-first-end
returns-then-first-end c =
    let f = c.first_that-first.ensures in
    no_run (flag_at c.args.flags.now) c.args.start c.args.end c.first_that-first.result f.after f.before c.if-first-end.true

pub returns : goal.returns
returns c =
    let f = c.first_that-first.ensures in
    let s = c.first_that.ensures in
    let inside : c.first_that-first.result < c.args.end = omega (arith, f.within, c.if-first-end.false) in
    next_run (flag_at c.args.flags.now) c.args.start c.args.end c.first_that-first.result f.after f.before c.first_that.result
    inside s.after s.within (f.at inside) s.before s.at
