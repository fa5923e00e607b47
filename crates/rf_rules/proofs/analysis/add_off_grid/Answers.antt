use Rattle.std.proofs.Common.{◌≡◌, Bool, ℕ, ap, sym, ◌∙◌}
use Rattle.rf_rules.specs.Instances.{at_in, ats_of}
use Rattle.rf_rules.specs.Analyses.{is_off_grid}
use Rattle.rf_rules.specs.declared.conflict.Conflict.TheVariants.{OffGrid}
use Rattle.rf_rules.proofs.AnalysisLemmas.{pass-none, pass-on, pass-over}
use Rattle.rf_show.specs.Show.{ShowData}
use Rattle.rf_rules.proofs.analysis.add_off_grid.Goals as goal
use Rattle.rf_rules.proofs.analysis.add_off_grid.Goals.{After-is_off_grid}

-- of a carrier
abbrev off : ShowData → ℕ → Bool
off show c = is_off_grid show c (at_in (ats_of show) c)

pub loop-carrier-init : goal.loop-carrier-init
loop-carrier-init c = pass-none _ _ c.args.tally.now

told : (c : After-is_off_grid) → off c.args.show.now c.loop-carrier.carrier ≡ c.is_off_grid.result
told c = sym (c.is_off_grid.ensures ∙ ap (is_off_grid c.args.show.now c.loop-carrier.carrier) (c.at.ensures ∙ ap (λ ats. at_in ats c.loop-carrier.carrier) c.requires))

pub loop-carrier-preserved-then-not-is_off_grid : goal.loop-carrier-preserved-then-not-is_off_grid
loop-carrier-preserved-then-not-is_off_grid c =
    pass-over (λ d. OffGrid d) (off c.args.show.now) c.loop-carrier.carrier c.args.tally.now c.loop-carrier.tally
    (told (goal.at.loop-carrier-preserved-then-not-is_off_grid c).After-is_off_grid ∙ c.if-not-is_off_grid.true) c.loop-carrier.invariant

pub loop-carrier-preserved : goal.loop-carrier-preserved
loop-carrier-preserved c =
    pass-on (λ d. OffGrid d) (off c.args.show.now) c.loop-carrier.carrier c.args.tally.now c.loop-carrier.tally c.add.new.self
    (told (goal.at.loop-carrier-preserved c).After-is_off_grid ∙ c.if-not-is_off_grid.false) c.loop-carrier.invariant c.in_ok-add.ensures
