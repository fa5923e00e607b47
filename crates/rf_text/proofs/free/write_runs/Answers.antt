use Rattle.rf_text.proofs.RunLemmas.{written_more}
use Rattle.rf_text.proofs.free.write_runs.Goals as goal

pub loop-first-preserved : goal.loop-first-preserved
loop-first-preserved c =
    written_more c.args.show.now c.args.carrier c.args.text.now c.args.start c.args.end c.loop-first.text c.write_run.new.text c.loop-first.total c.loop-first.next
    c.in-Some.first c.in-Some.stop c.loop-first.invariant c.in-Some.ensures c.in_ok-write_run.ensures
