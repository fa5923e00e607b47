use Rattle.std.proofs.Common.{◌∙◌, ℕ, sym, ap, arith, slice_index}
use Rattle.rf_audit.proofs.Sets.{or-last}
use Rattle.rf_audit.proofs.Struck.{falls-more}
use Rattle.rf_audit.proofs.Spreads.{still}
use Rattle.rf_audit.proofs.spread.spread_at.Goals as goal
use Rattle.rf_audit.proofs.spread.spread_at.Goals.{then-at-aim, else-at-aim}

pub loop-at-preserved : goal.loop-at-preserved
loop-at-preserved c = elim c.if-at-aim.branch [
  | then-at-aim w ↦ rw w.sets-is record {
    falls = falls-more c.loop-at.invariant.falls w.extend.ensures.falls;
    cleared = λ roles at full low other fix is. or-last at c.loop-at.at
        (λ below. still w.extend.ensures.falls c.args.aim.kind roles c.args.aim.place (c.loop-at.invariant.cleared roles at full below other fix is))
        (λ here. w.extend.ensures.cleared roles full (λ i none. absurd (omega (arith, none))) fix (ap (λ (i : ℕ). slice_index roles i) (sym here) ∙ is)) low;
  }
  | else-at-aim w ↦ rw w.sets-is record {
    falls = c.loop-at.invariant.falls;
    cleared = λ roles at full low other fix is. or-last at c.loop-at.at
        (λ below. c.loop-at.invariant.cleared roles at full below other fix is) (λ here. absurd (other (here ∙ w.if-at-aim.false))) low;
  }
]
