use Rattle.std.proofs.Common.{◌≡◌, [], ◌-◌}
use Rattle.rf_log.specs.Reading.{conds_in}
use Rattle.rf_log.proofs.reading.read_conds.Given as goal

abbrev pub invariant-loop : goal.invariant-loop
invariant-loop l = conds_in l.most [] l.fn.names l.fn.words ≡ conds_in (l.most - l.counter) l.conds l.names l.words
