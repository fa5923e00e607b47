-- Numbers in a range, and past it.
use Rattle.std.proofs.Common.{◌≡◌, ℕ, ◌<◌, false, arith, ◌≤◌, true, nat_le, le-leb}
use Rattle.std.proofs.lemmas.Bool.Decides.{nat_tests}
use Rattle.rf_domain.specs.Indices.{between}
use Rattle.std.proofs.lemmas.Bool.{and_from}

pub past_range : (lo hi k : ℕ) → hi < k → between lo hi k ≡ false
past_range lo hi k past = grind (arith, nat_tests)

pub in_range : (lo hi k : ℕ) → lo ≤ k → k ≤ hi → between lo hi k ≡ true
in_range lo hi k from to = and_from (nat_le lo k) (nat_le k hi) (le-leb lo k from) (le-leb k hi to)
