-- An advice for each carrier so far.
use Rattle.std.proofs.Common.{◌≡◌, length}
use Rattle.rf_find.proofs.looking.found_of.Given as goal

abbrev pub invariant-loop-carrier : goal.invariant-loop-carrier
invariant-loop-carrier l = length l.advice.items ≡ l.carrier
