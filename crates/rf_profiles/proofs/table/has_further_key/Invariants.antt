use Rattle.std.proofs.Common.{◌≡◌}
use Rattle.toml.specs.View.{members_view, table_view}
use Rattle.rf_profiles.specs.File.{has_further_key}
use Rattle.rf_profiles.proofs.table.has_further_key.Given as goal

abbrev pub invariant-loop-key : goal.invariant-loop-key
invariant-loop-key l = has_further_key (table_view l.table) ≡ has_further_key (members_view l.key-iterator)
