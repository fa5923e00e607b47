use Rattle.rf_base.proofs.FileNameLemmas.{visible_text}
use Rattle.rf_base.proofs.TextLaws.{ok_from_utf8}
use Rattle.rf_base.proofs.file_name.FileName.text.Goals as goal

pub unwrap-requires : goal.unwrap-requires
unwrap-requires c = ok_from_utf8 _ _ _ _ (visible_text _ c.self.invariant.0.visible) c.from_utf8.ensures.cases
