use Rattle.std.proofs.Common.{◌≡◌, ◌++◌, take}
use Rattle.std.specs.List.{flat_map}
use Rattle.rf_rules.specs.Products.{noted_of}
use Rattle.rf_rules.proofs.product_list.add_products.Given as goal

abbrev pub invariant-loop-kind : goal.invariant-loop-kind
invariant-loop-kind l = l.found.items ≡ l.initial.found.items ++ flat_map (noted_of l.company.show.now l.ats l.lo l.hi) (take l.kind-index l.kind-items)
