use Rattle.std.proofs.Common.{sym, ◌∙◌}
use Rattle.rf_spares.specs.Searches.{site_of}
use Rattle.rf_spares.proofs.SearchLemmas.{gains-as, gains-none, harm-not, harm-window}
use Rattle.rf_spares.proofs.search.Search.judge.Goals as goal

pub returns-then-not-admits : goal.returns-then-not-admits
returns-then-not-admits c = let s = c.args.self.now in gains-none _ _ (λ f. harm-not (site_of s) s.ats.now s.kind s.role c.args.u.now _ f (sym c.admits.ensures ∙ c.if-not-admits.true))

pub returns : goal.returns
returns c =
    let s = c.args.self.now in
    gains-as _ _ _ _ (λ f few. harm-window (site_of s) s.ats.now s.must s.kind s.role c.args.u.now _ _ _ _ _ f (sym c.is_wanted.ensures ∙ c.if-not-is_wanted.false) (sym c.admits.ensures
    ∙ c.if-not-admits.false) c.frequencies-others.ensures.value c.margin.ensures c.window-near.ensures
    (record { none = c.ends-lo.ensures.none; some = c.ends-lo.ensures.some }) few) c.mark.ensures
