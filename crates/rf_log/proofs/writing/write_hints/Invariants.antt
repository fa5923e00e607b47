use Rattle.std.proofs.Common.{◌≡◌, ◌++◌, take, string_bytes}
use Rattle.std.specs.List.{flat_map}
use Rattle.rf_log.specs.LineTexts.{hint_words, spaced}
use Rattle.rf_log.proofs.writing.write_hints.Given as goal

abbrev pub invariant-loop-hint : goal.invariant-loop-hint
invariant-loop-hint l =
    string_bytes l.text ≡ string_bytes l.initial.text ++ flat_map (λ hint. spaced (hint_words l.names hint)) (take l.hint-index l.hints)
