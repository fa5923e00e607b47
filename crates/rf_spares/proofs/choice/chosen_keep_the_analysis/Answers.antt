use Rattle.rf_spares.specs.Harms.{Site}
use Rattle.rf_spares.proofs.LawLemmas.{law}
use Rattle.rf_spares.proofs.SiteLemmas.{known-site}
use Rattle.rf_spares.proofs.choice.chosen_keep_the_analysis.Goals as goal

pub returns : goal.returns
returns c = λ show profile zone count shown low. let s : Site = record { show = show; profile = profile; zone = zone } in law s (known-site s shown low) count
