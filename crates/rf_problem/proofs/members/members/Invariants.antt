use Rattle.rf_problem.proofs.MemberLemmas.{AreMembers}
use Rattle.rf_problem.proofs.members.members.Given as goal

abbrev pub invariant-loop-c : goal.invariant-loop-c
invariant-loop-c l = AreMembers l.mask l.c l.len l.all
