use Rattle.std.proofs.Common.{sym, ◌∙◌}
use Rattle.rf_scan.proofs.HotLemmas.{one_hot, none_hot}
use Rattle.rf_scan.proofs.hot.hot_frequencies.Goals as goal
use Rattle.rf_scan.proofs.hot.hot_frequencies.Goals.{then-is_hot+in_ok-push, else-is_hot}

pub loop-point-preserved : goal.loop-point-preserved
loop-point-preserved c =
    let points = c.args.points.now in
    let i = c.loop-point.point-index in
    let so_far = c.loop-point.invariant in
    elim c.if-is_hot.branch [
      | then-is_hot+in_ok-push w ↦
          rw w.hot-is (w.in_ok-push.ensures.items ∙ one_hot c.args.threshold points i _ c.loop-point.hot.items c.loop-point-test.true so_far (sym c.is_hot.ensures ∙ w.if-is_hot.true))
      | else-is_hot w ↦
          rw w.hot-is (none_hot c.args.threshold points i _ c.loop-point.hot.items c.loop-point-test.true so_far (sym c.is_hot.ensures ∙ w.if-is_hot.false))
    ]
