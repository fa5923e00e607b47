use Rattle.std.specs.Prelude.{string_bytes}
use Rattle.rf_text.proofs.PlaceLemmas.{PlacesWritten}
use Rattle.rf_text.proofs.decimal_text.write_places.Given as goal

abbrev pub invariant-loop-place : goal.invariant-loop-place
invariant-loop-place l = PlacesWritten (string_bytes l.initial.text) (string_bytes l.text) l.fraction l.place l.rest
