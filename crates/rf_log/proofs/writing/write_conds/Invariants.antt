use Rattle.std.proofs.Common.{◌≡◌, ◌++◌, take, string_bytes}
use Rattle.std.specs.List.{flat_map}
use Rattle.rf_log.specs.LineTexts.{cond_words, spaced}
use Rattle.rf_log.proofs.writing.write_conds.Given as goal

abbrev pub invariant-loop-cond : goal.invariant-loop-cond
invariant-loop-cond l =
    string_bytes l.text ≡ string_bytes l.initial.text ++ flat_map (λ cond. spaced (cond_words l.names cond)) (take l.cond-index l.conds)
