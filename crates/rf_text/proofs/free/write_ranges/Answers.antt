use Rattle.std.proofs.Common.{◌≡◌, ◌≤◌, ◌+◌, ◌-◌, length, arith}
use Rattle.rf_profiles.specs.Range.{frequencies}
use Rattle.rf_text.proofs.RunLemmas.{ranges_more}
use Rattle.rf_text.proofs.free.write_ranges.Goals as goal
use Rattle.rf_profiles.proofs.RunLaws.{range_within, all_channels}

pub overflow_add-end : goal.overflow_add-end
overflow_add-end c =
    let items = c.ranges-range-items in
    let within = range_within items.result.now c.loop-range.range-index c.range-item.result c.loop-range-test.true c.range-item.is in
    let few = all_channels items.result.now c.profile_of.result.now.channels items.ensures.value items.ensures.form in
    omega (arith, within, few, c.loop-range.invariant.begins, c.count.ensures.value)

pub write_runs-requires-clause-within : goal.write_runs-requires-clause-within
write_runs-requires-clause-within c =
    let items = c.ranges-range-items in
    let within = range_within items.result.now c.loop-range.range-index c.range-item.result c.loop-range-test.true c.range-item.is in
    rw (c.profile_of.ensures.value, ← items.ensures.value) (omega (arith, within, c.loop-range.invariant.begins, c.count.ensures.value))

pub overflow_add-total : goal.overflow_add-total
overflow_add-total c =
    let items = c.ranges-range-items in
    let within = range_within items.result.now c.loop-range.range-index c.range-item.result c.loop-range-test.true c.range-item.is in
    let few = all_channels items.result.now c.profile_of.result.now.channels items.ensures.value items.ensures.form in
    omega (arith, within, few, c.loop-range.invariant.begins, c.loop-range.invariant.few, c.count.ensures.value, c.in_ok-total.ensures.few)

pub loop-range-preserved : goal.loop-range-preserved
loop-range-preserved c =
    let count : c.loop-range.start + c.count.result - c.loop-range.start ≡ length (frequencies c.range-item.result) = omega (arith, c.count.ensures.value) in
    let value = c.count.ensures.value in
    let written = c.in_ok-total.ensures in
    let few : c.in_ok-total.field-0 ≤ length (frequencies c.range-item.result) = omega (arith, written.few, count) in
    rw value (ranges_more c.args.show.now c.args.carrier c.args.text.now c.ranges-range-items.result.now c.loop-range.range-index c.loop-range.text c.write_runs.new.text
    c.loop-range.total c.loop-range.start c.in_ok-total.field-0 c.range-item.result c.loop-range.invariant c.loop-range-test.true c.range-item.is
    (rw count at written.text) (rw count at written.total) few)
