use Rattle.std.proofs.Common.{◌≡◌, take, filter}
use Rattle.rf_rules.specs.Products.{is_upto}
use Rattle.rf_rules.proofs.front.upto.Given as goal

abbrev pub invariant-loop-product : goal.invariant-loop-product
invariant-loop-product l = l.some.items ≡ filter (is_upto l.end) (take l.product-index l.found)
