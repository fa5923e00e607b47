use Rattle.std.proofs.Common.{◌≡◌, ◌<◌, ℕ, true, None}
use Rattle.rf_audit.specs.Left.{fixed_at, in_sets}
use Rattle.rf_audit.specs.Looks.{HasTwo}
use Rattle.rf_audit.proofs.closing.survey.Given as goal

abbrev pub invariant-loop-c : goal.invariant-loop-c
invariant-loop-c l = record {
  living : (d : ℕ) → d < l.c → (k : ℕ) × (in_sets l.left.sets.items d k ≡ true);
  two : (d : ℕ) → d < l.c → fixed_at l.left.fixed.items d ≡ None → HasTwo (in_sets l.left.sets.items) d;
}
