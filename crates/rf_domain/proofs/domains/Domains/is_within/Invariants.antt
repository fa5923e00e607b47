use Rattle.std.proofs.Common.{◌≡◌, ◌<◌, ℕ, true}
use Rattle.rf_domain.specs.Sets.{has}
use Rattle.rf_domain.proofs.domains.Domains.is_within.Given as goal

abbrev pub invariant-loop-carrier : goal.invariant-loop-carrier
invariant-loop-carrier l = (c k : ℕ) → c < l.carrier → has l.self c k ≡ true → has l.others c k ≡ true
