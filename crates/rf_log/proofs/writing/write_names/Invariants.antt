use Rattle.std.proofs.Common.{◌≡◌, ◌++◌, map, take, string_bytes}
use Rattle.rf_log.specs.LineTexts.{name_at, spaced}
use Rattle.rf_log.proofs.writing.write_names.Given as goal

abbrev pub invariant-loop-carrier : goal.invariant-loop-carrier
invariant-loop-carrier l = string_bytes l.text ≡ string_bytes l.initial.text ++ spaced (map (name_at l.names) (take l.carrier-index l.carriers))
