use Rattle.rf_show.specs.Case.{case_of}
use Rattle.rf_audit.specs.Left.{IsClearedWith}
use Rattle.rf_audit.proofs.Sets.{one-more}
use Rattle.rf_audit.proofs.Struck.{falls-more}
use Rattle.rf_audit.proofs.Spreads.{still}
use Rattle.rf_audit.proofs.spread.spread_kind.Goals as goal

pub loop-place-preserved : goal.loop-place-preserved
loop-place-preserved c = record {
  falls = falls-more c.loop-place.invariant.falls c.spread_at.ensures.falls;
  cleared = one-more (λ p. IsClearedWith (case_of c.args.show.now) c.args.fixed.now c.spread_at.new.sets.items c.args.x c.args.kind p) c.loop-place.place
      (λ p low roles at full low_at other fix is. still c.spread_at.ensures.falls c.args.kind roles p (c.loop-place.invariant.cleared p low roles at full low_at other fix is))
      c.spread_at.ensures.cleared;
}
