use Rattle.std.proofs.Common.{◌≡◌, [], ◌-◌}
use Rattle.rf_log.specs.Reading.{hints_in}
use Rattle.rf_log.proofs.reading.read_hints.Given as goal

abbrev pub invariant-loop : goal.invariant-loop
invariant-loop l = hints_in l.most [] l.fn.names l.fn.words ≡ hints_in (l.most - l.counter) l.hints.items l.names l.words
