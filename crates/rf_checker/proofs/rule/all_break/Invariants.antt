use Rattle.std.proofs.Common.{◌≡◌, ℕ, ◌≤◌, ◌<◌, true, length, take, slice_set}
use Rattle.rf_terms.specs.Forms.{AreFrequencies}
use Rattle.rf_log.specs.Case as case
use Rattle.rf_show.specs.Case.{case_of}
use Rattle.rf_checker.proofs.RuleLemmas.{Agree}
use Rattle.rf_checker.proofs.rule.all_break.Given as goal

abbrev pub invariant-loop-k : goal.invariant-loop-k
invariant-loop-k l = record {
  each : (j : ℕ) → l.lo ≤ j → j < l.k →
      case.is_broken l.kind (slice_set (take (length l.roles) l.fn.freqs) l.place (case.freq_of (case_of l.show) l.target j)) (case.margin_of (case_of l.show) l.kind l.roles) ≡ true;
  same : Agree l.freqs l.fn.freqs l.place;
  four : length l.freqs ≡ 4;
  small : AreFrequencies l.freqs;
}
