use Rattle.std.proofs.Common.{◌≡◌, ◌++◌, map, take, string_bytes}
use Rattle.rf_base.specs.Lines.{spaced}
use Rattle.rf_report.specs.Names.{name_at}
use Rattle.rf_report.proofs.line.write_names.Given as goal

abbrev pub invariant-loop-place : goal.invariant-loop-place
invariant-loop-place l = string_bytes l.text ≡ string_bytes l.initial.text ++ spaced (map (name_at l.carriers) (take l.place-index l.places))
