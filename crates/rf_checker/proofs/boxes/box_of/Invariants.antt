use Rattle.std.proofs.Common.{◌≡◌, ℕ, ◌<◌, length}
use Rattle.rf_log.specs.Box.{box_of}
use Rattle.rf_show.specs.Case.{case_of}
use Rattle.rf_checker.specs.Boxes.{box_in}
use Rattle.rf_checker.proofs.boxes.box_of.Given as goal

abbrev pub invariant-loop-c : goal.invariant-loop-c
invariant-loop-c l = (length l.sets.items ≡ l.c) × ((d k : ℕ) → d < l.c → box_in l.sets.items d k ≡ box_of (case_of l.show) l.conds d k)
