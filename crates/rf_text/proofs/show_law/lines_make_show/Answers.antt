use Rattle.rf_text.proofs.LinesRead.{lines_make}
use Rattle.rf_text.proofs.show_law.lines_make_show.Goals as goal

pub returns : goal.returns
returns c = lines_make
