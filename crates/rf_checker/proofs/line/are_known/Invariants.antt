use Rattle.std.proofs.Common.{◌≡◌, take, true, length, nat_lt}
use Rattle.std.specs.List.{list_all}
use Rattle.rf_show.specs.Case.{case_of}
use Rattle.rf_checker.proofs.line.are_known.Given as goal

abbrev pub invariant-loop-role : goal.invariant-loop-role
invariant-loop-role l = list_all (λ c. nat_lt c (length (case_of l.show).carriers)) (take l.role-index l.roles) ≡ true
