use Rattle.std.proofs.Common.{◌∙◌, ap, arith, take_all}
use Rattle.std.specs.List.{list_any}
use Rattle.rf_spares.specs.Harms.{harms, harms_kind}
use Rattle.rf_spares.specs.Searches.{site}
use Rattle.rf_spares.proofs.SearchLemmas.{gains-as}
use Rattle.rf_spares.proofs.search.mark_all.Goals as goal

pub returns : goal.returns
unfolding harms
returns c =
    gains-as _ _ _ _ (λ f few. ap (list_any (harms_kind (site c.args.crowd.now) c.args.ats.now c.args.must f))
    (take_all c.loop-kind.kind-index c.kinds-kind-items.result.now (omega (arith, c.loop-kind-test.false)) ∙ c.kinds-kind-items.ensures)) c.loop-kind.invariant
