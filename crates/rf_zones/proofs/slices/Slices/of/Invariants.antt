use Rattle.std.proofs.Common.{◌≡◌, ℕ, Bool, true, take}
use Rattle.std.specs.List.{list_all, list_any}
use Rattle.rf_zones.specs.Times.{is_interval}
use Rattle.rf_zones.proofs.MinuteLemmas.{passes_start}
use Rattle.rf_zones.proofs.slices.Slices.of.Given as goal

abbrev pub invariant-loop-time : goal.invariant-loop-time
invariant-loop-time l = record {
  told : (test : ℕ → Bool) → list_any test l.masks.items ≡ passes_start l.times test (take l.time-index l.times);
  valid : list_all (list_all is_interval) (take l.time-index l.times) ≡ true;
}
