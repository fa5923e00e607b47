use Rattle.std.proofs.Common.{◌≡◌, ◌+◌, []}
use Rattle.toml.specs.View.{members_view, table_view}
use Rattle.rf_profiles.specs.File.{profiles_from}
use Rattle.rf_profiles.proofs.DocumentLemmas.{Fits}
use Rattle.rf_profiles.proofs.file.profiles_in.Given as goal

abbrev pub invariant-loop-key : goal.invariant-loop-key
invariant-loop-key l = (profiles_from 1 [] (table_view l.table) ≡ profiles_from (l.number + 1) l.profiles.items (members_view l.key-iterator))
    × Fits l.table.entries l.key-iterator l.profiles.items
