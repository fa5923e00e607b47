use Rattle.rf_text.proofs.TextualLemmas.{edits_stay}
use Rattle.rf_text.proofs.show_law.edits_stay_textual.Goals as goal

pub returns : goal.returns
returns c = edits_stay
