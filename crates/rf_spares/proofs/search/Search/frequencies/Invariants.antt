use Rattle.std.proofs.Common.{◌≡◌, length, take}
use Rattle.rf_terms.specs.Forms.{AreFrequencies}
use Rattle.rf_rules.specs.Instances.{khzs_in}
use Rattle.rf_spares.proofs.search.Search.frequencies.Given as goal

abbrev pub invariant-loop-i : goal.invariant-loop-i
invariant-loop-i l = record {
  done : take l.i l.others ≡ khzs_in l.self.ats.now (take l.i l.u);
  room : length l.others ≡ 3;
  bound : AreFrequencies l.others;
}
