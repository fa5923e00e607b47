use Rattle.std.proofs.Common.{◌≡◌, ◌≤◌, ◌+◌, length}
use Rattle.rf_demo.specs.Lines.{demo_lines}
use Rattle.rf_session.proofs.Demonstrating.{GoesOn}
use Rattle.rf_session.proofs.demo.play.Given as goal

abbrev pub invariant-loop-machine : goal.invariant-loop-machine
invariant-loop-machine l = record {
  goes_on : GoesOn (demo_lines l.fn.seed l.fn.count) l.script l.machine l.refused;
  counted : l.lines + length l.script ≡ l.fn.count + 3;
  many : length (demo_lines l.fn.seed l.fn.count) ≡ l.fn.count + 3;
  few : l.refused ≤ l.lines;
}

abbrev pub decreases-loop-machine : goal.decreases-loop-machine
decreases-loop-machine l = length l.script
