use Rattle.std.proofs.Common.{◌≡◌, None, drop}
use Rattle.toml.specs.View.{items_view}
use Rattle.rf_profiles.specs.File.{channels_in}
use Rattle.rf_profiles.proofs.table.channels_in.Given as goal

abbrev pub invariant-loop-value : goal.invariant-loop-value
invariant-loop-value l = channels_in None (items_view l.array.items) ≡ channels_in l.channels (items_view (drop l.value-index l.array.items))
