use Rattle.std.proofs.Common.{refl}
use Rattle.rf_spares.proofs.field.Field.channels.Goals as goal

pub returns : goal.returns
returns c = let own = c.own_profile.ensures in rw own refl
