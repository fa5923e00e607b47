use Rattle.std.proofs.Common.{◌≡◌, ◌++◌, take, string_bytes}
use Rattle.rf_solving.specs.Solving.{at_lines}
use Rattle.rf_solving.proofs.plan.write_ats.Given as goal

abbrev pub invariant-loop-i : goal.invariant-loop-i
invariant-loop-i l = string_bytes l.text ≡ string_bytes l.fn.text ++ at_lines (take l.i l.names) (take l.i l.freqs)
