use Rattle.std.proofs.Common.{sym, ◌∙◌, arith}
use Rattle.rf_profiles.proofs.ChannelsLemmas.{found_here, found_later, length-channels-drop}
use Rattle.rf_profiles.proofs.channels.freq_of.Goals as goal

pub returns-then-rest-count : goal.returns-then-rest-count
returns-then-rest-count c =
    sym c.loop-range.invariant.here
    ∙ found_here c.args.ranges.now _ _ _ c.range-item.result (omega arith) c.range-item.is c.freq.ensures

pub loop-range-preserved : goal.loop-range-preserved
loop-range-preserved c = record {
  here =
      found_later c.args.ranges.now _ _ _ c.range-item.result (omega arith) c.range-item.is c.count-count.ensures.value (omega arith)
      ∙ c.loop-range.invariant.here;
  within =
      omega (arith, length-channels-drop c.args.ranges.now c.loop-range.range-index c.range-item.result (omega arith) c.range-item.is);
}
