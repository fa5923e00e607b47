use Rattle.std.proofs.Common.{◌≡◌}
use Rattle.rf_show.proofs.PlaceLaws.{placed_to, taken_to}
use Rattle.rf_show.proofs.frequencies.swap_frequencies.Given as goal

abbrev pub invariant-loop-i : goal.invariant-loop-i
invariant-loop-i l = record {
  carriers : l.carriers ≡ placed_to l.i l.initial.carriers l.initial.ats;
  ats : l.ats ≡ taken_to l.i l.initial.carriers l.initial.ats;
}
