use Rattle.std.proofs.Common.{◌≡◌, ◌++◌, map, take, string_bytes, decimal}
use Rattle.rf_base.specs.Lines.{spaced}
use Rattle.rf_text.proofs.edit_text.write_numbers.Given as goal

abbrev pub invariant-loop-number : goal.invariant-loop-number
invariant-loop-number l = string_bytes l.text ≡ string_bytes l.initial.text ++ spaced (map decimal (take l.number-index l.numbers))
