use Rattle.std.proofs.Common.{◌∙◌, ℕ, sym, ap, arith, slice_index}
use Rattle.std.proofs.lemmas.List.{get_or_default}
use Rattle.rf_audit.proofs.Struck.{falls-more}
use Rattle.rf_audit.proofs.Sets.{or-last}
use Rattle.rf_audit.proofs.Spreads.{still}
use Rattle.rf_audit.proofs.strike.strike.Goals as goal
use Rattle.rf_audit.proofs.strike.strike.Goals.{then-index-g, else-index-g}

pub loop-g-preserved : goal.loop-g-preserved
loop-g-preserved c =
    let leaders = c.args.table.now.leaders.items in
    elim c.if-index-g.branch [
      | then-index-g w ↦ rw w.sets-is record {
        falls = falls-more c.loop-g.invariant.falls w.strike_led.ensures.falls;
        cleared = λ d low. or-last (slice_index leaders d) c.loop-g.g
            (λ below roles full along fix here. still w.strike_led.ensures.falls c.args.aim.kind roles c.args.aim.place (c.loop-g.invariant.cleared d low below roles full along fix here))
            (w.strike_led.ensures.cleared d low);
      }
      | else-index-g w ↦ rw w.sets-is record {
        falls = c.loop-g.invariant.falls;
        cleared = λ d low. or-last (slice_index leaders d) c.loop-g.g (c.loop-g.invariant.cleared d low)
            (λ is. absurd (w.if-index-g.false (let full = c.requires.table.full in let itself = (c.requires.table.led d (omega (arith, full, low))).itself in
            let len = c.len-g-end.ensures in let t = c.loop-g-test.true in
            c.index.ensures ∙ get_or_default leaders c.loop-g.g c.index.result.now 0 (omega (arith, len, t)) ∙ (ap (λ (y : ℕ). slice_index leaders y) (sym is) ∙ itself ∙ is))));
      }
    ]
