use Rattle.rf_text.proofs.ShowLemmas.{pairs_with_more}
use Rattle.rf_text.proofs.show_lines.add_couplings.Goals as goal

pub loop-a-preserved : goal.loop-a-preserved
loop-a-preserved c =
    pairs_with_more c.args.coupling c.args.lines.now c.loop-a.lines c.add_couplings_with.new.lines c.args.zones.now c.loop-a.a c.loop-a.invariant c.in_ok-add_couplings_with.ensures
