use Rattle.rf_base.proofs.NameLaws.{name_text}
use Rattle.rf_base.proofs.TextLaws.{ok_from_utf8}
use Rattle.rf_base.proofs.name.Name.text.Goals as goal

pub unwrap-requires : goal.unwrap-requires
unwrap-requires c = ok_from_utf8 _ _ _ _ (name_text _ c.self.invariant.0.allowed) c.from_utf8.ensures.cases
