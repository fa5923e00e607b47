use Rattle.rf_text.proofs.TextLines.{text_has}
use Rattle.rf_text.proofs.show_law.text_has_lines.Goals as goal

pub returns : goal.returns
returns c = text_has
