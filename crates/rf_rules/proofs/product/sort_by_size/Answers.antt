use Rattle.std.proofs.Common.{◌≡◌, rules}
use Rattle.std.proofs.lemmas.Fn.{always_returns_same}
use Rattle.std.proofs.lemmas.List.Sorted.{IsNonDecreasingBy-from_sort_by_key}
use Rattle.rf_rules.specs.Products.{size_of}
use Rattle.rf_rules.proofs.SizeLemmas.{stable-by_size}
use Rattle.rf_rules.proofs.product.sort_by_size.Goals as goal

pub returns-clause-sorted : goal.returns-clause-sorted
returns-clause-sorted c = IsNonDecreasingBy-from_sort_by_key size_of _ c.in_ok-sort_by_key.ensures.sorted (λ a r q k. search rules)

pub returns-clause-stable : goal.returns-clause-stable
returns-clause-stable c = stable-by_size _ _ (c.in_ok-sort_by_key.ensures.stable size_of (always_returns_same _ (λ a r. r ≡ size_of a.0.now) _ (λ a r q k. search rules)))
