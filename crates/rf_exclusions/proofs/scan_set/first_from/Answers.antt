use Rattle.std.proofs.Common.{rules, nat_lt, get_or, arith, ltb-true, ltb-false}
use Rattle.std.proofs.lemmas.List.Sorted.{IsPartitionedBy-ltb, IsPartitionPoint-from_clause}
use Rattle.rf_exclusions.proofs.PointLemmas.{rises}
use Rattle.rf_exclusions.proofs.scan_set.first_from.Goals as goal

pub returns-clause-below : goal.returns-clause-below
returns-clause-below c = λ k low within.
    let parted = IsPartitionedBy-ltb (λ y. y) c.args.points.now c.args.low (rises c.args.points.now c.requires) in
    let point = IsPartitionPoint-from_clause (λ y. nat_lt y c.args.low) _ _ c.partition_point.ensures.partitioned parted (λ a r q k. search rules) in
    ltb-true (get_or c.args.points.now k 0) c.args.low (point.0 k 0 (omega arith) low)

pub returns-clause-above : goal.returns-clause-above
returns-clause-above c = λ k high within.
    let parted = IsPartitionedBy-ltb (λ y. y) c.args.points.now c.args.low (rises c.args.points.now c.requires) in
    let point = IsPartitionPoint-from_clause (λ y. nat_lt y c.args.low) _ _ c.partition_point.ensures.partitioned parted (λ a r q k. search rules) in
    ltb-false (get_or c.args.points.now k 0) c.args.low (point.1 k 0 high within)
