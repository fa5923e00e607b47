use Rattle.std.proofs.Common.{◌≡◌, Bool, ℕ, ap, sym, ◌∙◌}
use Rattle.rf_rules.specs.Instances.{at_in, ats_of}
use Rattle.rf_rules.specs.Analyses.{stands_banned}
use Rattle.rf_rules.specs.declared.conflict.Conflict.TheVariants.{Banned}
use Rattle.rf_rules.proofs.AnalysisLemmas.{pass-none, pass-on, pass-over}
use Rattle.rf_show.specs.Show.{ShowData}
use Rattle.rf_rules.proofs.analysis.add_banned.Goals as goal
use Rattle.rf_rules.proofs.analysis.add_banned.Goals.{After-stands_banned}

-- of a carrier
abbrev banned : ShowData → ℕ → Bool
banned show c = stands_banned show c (at_in (ats_of show) c)

pub loop-carrier-init : goal.loop-carrier-init
loop-carrier-init c = pass-none _ _ c.args.tally.now

told : (c : After-stands_banned) → banned c.args.show.now c.loop-carrier.carrier ≡ c.stands_banned.result
told c = sym (c.stands_banned.ensures ∙ ap (stands_banned c.args.show.now c.loop-carrier.carrier) (c.at.ensures ∙ ap (λ ats. at_in ats c.loop-carrier.carrier) c.requires))

pub loop-carrier-preserved-then-not-stands_banned : goal.loop-carrier-preserved-then-not-stands_banned
loop-carrier-preserved-then-not-stands_banned c =
    pass-over (λ d. Banned d) (banned c.args.show.now) c.loop-carrier.carrier c.args.tally.now c.loop-carrier.tally
    (told (goal.at.loop-carrier-preserved-then-not-stands_banned c).After-stands_banned ∙ c.if-not-stands_banned.true) c.loop-carrier.invariant

pub loop-carrier-preserved : goal.loop-carrier-preserved
loop-carrier-preserved c =
    pass-on (λ d. Banned d) (banned c.args.show.now) c.loop-carrier.carrier c.args.tally.now c.loop-carrier.tally c.add.new.self
    (told (goal.at.loop-carrier-preserved c).After-stands_banned ∙ c.if-not-stands_banned.false) c.loop-carrier.invariant c.in_ok-add.ensures
