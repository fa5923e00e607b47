use Rattle.std.proofs.Common.{◌≡◌, ◌++◌, take}
use Rattle.std.specs.List.{flat_map}
use Rattle.rf_log.specs.LineTexts.{line_text_of}
use Rattle.rf_decide.proofs.texts.add_lines.Given as goal

abbrev pub invariant-loop-line : goal.invariant-loop-line
invariant-loop-line l = l.text.items ≡ l.fn.text.items ++ flat_map (line_text_of l.names) (take l.line-index l.log)
