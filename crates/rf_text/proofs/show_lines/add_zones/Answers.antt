use Rattle.rf_text.proofs.ShowLemmas.{zones_more}
use Rattle.rf_text.proofs.show_lines.add_zones.Goals as goal

pub loop-z-preserved : goal.loop-z-preserved
loop-z-preserved c =
    zones_more c.args.lines.now c.loop-z.lines c.add.new.self c.args.zones.now.names c.loop-z.z _ c.loop-z.auto.z c.name-name.ensures c.loop-z.invariant c.in_ok-add.ensures
