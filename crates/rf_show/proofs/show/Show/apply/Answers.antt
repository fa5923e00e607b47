use Rattle.std.proofs.Common.{◌≡◌, None, Some, refl, sym, ◌∙◌}
use Rattle.rf_show.specs.After.{edited, refusal}
use Rattle.rf_show.specs.Taken.{leads}
use Rattle.rf_show.proofs.AdmittedLemmas.{edit_leads}
use Rattle.rf_show.proofs.ReasonLemmas.{none_refused}
use Rattle.rf_show.proofs.show.Show.apply.Goals as goal

pub back-requires : goal.back-requires
back-requires c =
    let none : refusal c.args.self.now c.args.edit ≡ None = none_refused _ _ (sym c.admits.ensures ∙ c.in_ok-admits.was) in
    let step = c.step_of-step in
    let there : leads c.args.self.now step.result ≡ Some (edited c.args.self.now c.args.edit) =
    edit_leads c.args.self.now c.args.edit step.result step.ensures.shown c.requires none step.ensures.fits step.ensures.there in
    rw there refl
