use Rattle.std.proofs.Common.{false, sym, true}
use Rattle.rf_text.proofs.ShowLemmas.{no_pair_more, pair_more, stands_as}
use Rattle.rf_text.proofs.show_lines.add_couplings_with.Goals as goal

pub loop-b-preserved-then-ne : goal.loop-b-preserved-then-ne
loop-b-preserved-then-ne c =
    let off = stands_as c.args.coupling c.coupling.result c.args.zones.now c.args.a c.loop-b.b true c.coupling.ensures.value (sym c.if-ne.ensures) in
    no_pair_more c.args.coupling c.args.lines.now c.loop-b.lines c.args.zones.now c.args.a c.loop-b.b c.loop-b.auto.b off c.loop-b.invariant

pub loop-b-preserved : goal.loop-b-preserved
loop-b-preserved c =
    let on = stands_as c.args.coupling c.coupling.result c.args.zones.now c.args.a c.loop-b.b false c.coupling.ensures.value (sym c.if-ne.ensures) in
    let edit = c.coupling_edit-edit.ensures in
    let added = c.in_ok-add.ensures in
    pair_more c.args.coupling c.args.lines.now c.loop-b.lines c.add.new.self c.args.zones.now c.args.a c.loop-b.b _ _ c.loop-b.auto.b on
    c.name.ensures c.name-in-loop-b.ensures c.loop-b.invariant (rw edit at added)
