use Rattle.std.proofs.Common.{[], ap, arith}
use Rattle.rf_spares.specs.Harms.{harms_from, harms_role}
use Rattle.rf_spares.specs.Searches.{site}
use Rattle.rf_spares.proofs.SearchLemmas.{gains-next, gains-none}
use Rattle.rf_spares.proofs.search.mark_kind.Goals as goal
use Rattle.rf_rules.proofs.TupleLaws.{any-zero}

pub loop-role-init : goal.loop-role-init
loop-role-init c = gains-none _ _ (λ f. any-zero _)

pub loop-role-preserved : goal.loop-role-preserved
loop-role-preserved c =
    let s = site c.args.crowd.now in
    gains-next _ _ _ (λ f. harms_role s c.args.ats.now c.args.must c.args.kind f) _ c.loop-role.role c.loop-role.invariant c.extend.ensures
    (λ f. ap (λ k. harms_from s c.args.ats.now c.args.must c.args.kind c.loop-role.role [] k f) (omega arith))
