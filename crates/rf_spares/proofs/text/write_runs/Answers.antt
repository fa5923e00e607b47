use Rattle.rf_spares.specs.Runs.{flag_at}
use Rattle.rf_spares.proofs.RunLemmas.{written_more}
use Rattle.rf_spares.proofs.text.write_runs.Goals as goal

pub loop-first-preserved : goal.loop-first-preserved
loop-first-preserved c =
    written_more c.args.channels.now (flag_at c.args.flags.now) c.args.text.now c.args.start c.args.end c.loop-first.text c.write_run.new.text c.loop-first.next
    c.in-Some.first c.in-Some.stop c.loop-first.invariant c.in-Some.ensures c.in_ok-write_run.ensures
