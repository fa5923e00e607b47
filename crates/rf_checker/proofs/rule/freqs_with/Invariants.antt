use Rattle.std.proofs.Common.{◌≡◌, take, map, length}
use Rattle.rf_terms.specs.Forms.{AreFrequencies}
use Rattle.rf_log.specs.Case as case
use Rattle.rf_log.specs.Hints as hints
use Rattle.rf_show.specs.Case.{case_of}
use Rattle.rf_checker.specs.Boxes.{box_in}
use Rattle.rf_checker.proofs.rule.freqs_with.Given as goal

abbrev pub invariant-loop-i : goal.invariant-loop-i
invariant-loop-i l = record {
  value : take l.i l.freqs ≡ map (λ c. case.freq_of (case_of l.show) c (hints.indices_with (case_of l.show) (box_in l.sets) l.target 0 c)) (take l.i l.roles);
  four : length l.freqs ≡ 4;
  small : AreFrequencies l.freqs;
}
