use Rattle.rf_text.proofs.OperandLemmas.{ReadsNumbers}
use Rattle.rf_text.proofs.operand.profile_numbers.Given as goal

abbrev pub invariant-loop-place : goal.invariant-loop-place
invariant-loop-place l = ReadsNumbers l.place l.initial.words l.numbers l.words
