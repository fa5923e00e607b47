use Rattle.std.proofs.Common.{◌≡◌, ◌++◌, ◌-◌, length, map, take, replicate}
use Rattle.rf_show.specs.Show.{zone_number}
use Rattle.rf_spares.specs.Crowds.{AreZones}
use Rattle.rf_spares.proofs.crowd.zone_numbers.Given as goal

abbrev pub invariant-loop-i : goal.invariant-loop-i
invariant-loop-i l = record {
  done : l.numbers ≡ map (λ c. zone_number l.show.zones c.zone) (take l.i l.carrier-items) ++ replicate (96 - l.i) l.own;
  within : AreZones l.show l.numbers;
  room : length l.numbers ≡ 96;
}
