-- What a source and a shelf that never fail hold.
use Rattle.std.specs.Prelude.{ℕ, List, drop}
use Rattle.rf_base.specs.declared.clean.CleanSource.{CleanSource}

-- the bytes that are left
abbrev pub left_in : CleanSource → List ℕ
left_in source = drop source.given source.bytes.items
