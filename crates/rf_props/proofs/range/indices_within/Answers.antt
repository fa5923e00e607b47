use Rattle.std.proofs.Common.{◌-◌, arith, to_z, of_z, w64}
use Rattle.std.proofs.lemmas.Int.{to_z-of_z}
use Rattle.rf_props.proofs.RangeLemmas.{range_none, range_some, none_at, range_at}
use Rattle.rf_props.proofs.range.indices_within.Goals as goal

pub returns-then-first-end : goal.returns-then-first-end
returns-then-first-end c =
    let lo = to_z w64 (of_z w64 c.args.lo) in
    let hi = to_z w64 (of_z w64 c.args.hi) in
    none_at c.args.freqs.now c.args.lo c.args.hi lo hi (to_z-of_z w64 c.args.lo c.ranges.lo) (to_z-of_z w64 c.args.hi c.ranges.hi)
    (range_none c.args.freqs.now lo hi c.from.result c.above.result c.count_below-first.result c.count_below-end.result c.requires.below
    c.from.ensures c.above.ensures c.count_below-first.ensures c.count_below-end.ensures (omega arith))

pub returns : goal.returns
returns c =
    let lo = to_z w64 (of_z w64 c.args.lo) in
    let hi = to_z w64 (of_z w64 c.args.hi) in
    range_at c.args.freqs.now c.args.lo c.args.hi lo hi c.count_below-first.result (c.count_below-end.result - 1) (to_z-of_z w64 c.args.lo c.ranges.lo) (to_z-of_z w64 c.args.hi c.ranges.hi)
    (range_some c.args.freqs.now lo hi c.from.result c.above.result c.count_below-first.result c.count_below-end.result c.requires.below
    c.from.ensures c.above.ensures c.count_below-first.ensures c.count_below-end.ensures (omega arith))
