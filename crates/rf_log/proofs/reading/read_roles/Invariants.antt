use Rattle.std.proofs.Common.{◌≡◌, ◌-◌, length}
use Rattle.rf_log.specs.Reading.{roles_in, no_roles}
use Rattle.rf_log.proofs.reading.read_roles.Given as goal

abbrev pub invariant-loop-place : goal.invariant-loop-place
invariant-loop-place l = record {
  is : roles_in l.count 0 no_roles l.fn.names l.fn.words ≡ roles_in (l.count - l.place) l.place l.roles l.names l.words;
  full : length l.roles ≡ 4;
}
