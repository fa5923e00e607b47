use Rattle.std.proofs.Common.{◌∙◌}
use Rattle.rf_show.proofs.QueryLemmas.{index-some}
use Rattle.rf_show.proofs.show.Show.has_channel.Goals as goal

pub returns : goal.returns
returns c = rw c.profile_of.ensures.value (c.is_some.ensures ∙ index-some _ _ c.index_of.result c.index_of.ensures.found c.index_of.ensures.none)
