use Rattle.std.proofs.Common.{refl, get_or, false, ◌≡◌, ◌∙◌, ◌-◌, ap, arith, length, sym, slice_index}
use Rattle.std.proofs.lemmas.List.{length-map}
use Rattle.rf_profiles.specs.Channels.{channels}
use Rattle.rf_profiles.specs.Range.{Span}
use Rattle.rf_spares.specs.Newcomers.{channels_at}
use Rattle.rf_spares.proofs.FieldLemmas.{channels-between, first-channel, gained-marks}
use Rattle.rf_spares.proofs.field.Field.of.Goals as goal

pub overflow_sub-count : goal.overflow_sub-count
overflow_sub-count c = omega (arith, c.count.ensures.value, ap length (first-channel _ c.index-ranges-0.result c.ranges-2.ensures.form))

pub freq-requires : goal.freq-requires
freq-requires c = omega (arith, c.count.ensures.value, ap length (first-channel _ c.index-ranges-0.result c.ranges-2.ensures.form))

pub overflow_sub-high : goal.overflow_sub-high
overflow_sub-high c =
    let own = c.own_profile.result.now.channels in
    let first = c.index-ranges-0.result in
    let low : first.from ≡ (get_or own 0 first).from = ap (λ (r : Span). r.from) c.index-ranges-0.is ∙ ap (λ rs. (get_or rs 0 first).from) c.ranges-2.ensures.value in
    let high = rw (c.count.ensures.value) at c.freq.ensures in
    let some = ap length (first-channel own first c.ranges-2.ensures.form) in
    let between = channels-between own first c.from-low.result c.freq.result c.ranges-2.ensures.form c.count.ensures.rising (c.from-low.ensures.value ∙ low) high
    (length (channels own) - 1) (omega (arith, some)) in
    omega (arith, between.0, between.1, c.get-high.ensures.value)

pub returns-clause-known : goal.returns-clause-known
returns-clause-known c =
    let own = c.own_profile.result.now.channels in
    let crowd = c.in_ok-crowd.crowd in
    let first = c.index-ranges-0.result in
    let low : first.from ≡ (get_or own 0 first).from = ap (λ (r : Span). r.from) c.index-ranges-0.is ∙ ap (λ rs. (get_or rs 0 first).from) c.ranges-2.ensures.value in
    let high = rw (c.count.ensures.value) at c.freq.ensures in
    let is = c.own_profile.ensures in
    let chs : channels_at crowd.show.now crowd.profile ≡ channels own = rw is refl in
    let made = c.in_ok-marks.ensures in
    let gains = rw c.deref.ensures.value at c.mark_all.ensures in
    let ats : length c.in_ok-ats.ats.items ≡ length crowd.show.now.carriers =
    ap length c.in_ok-ats.ensures ∙ length-map c.args.show.now.carriers (λ d. d.at) ∙ ap (λ (s : _). length s.carriers) (sym c.in_ok-crowd.ensures.show) in
    record {
      known = c.in_ok-crowd.ensures.known;
      few = omega (arith, ats, c.in_ok-crowd.ensures.known.few);
      spans = λ k inside.
          let between = channels-between own first c.from-low.result c.freq.result c.ranges-2.ensures.form c.count.ensures.rising (c.from-low.ensures.value ∙ low) high
          k (omega (arith, inside, ap length chs)) in
          let same : slice_index (channels own) k ≡ slice_index (channels_at crowd.show.now crowd.profile) k = ap (λ cs. slice_index cs k) (sym chs) in
          (omega (arith, between.0, same, made.low, gains.low), omega (arith, between.0, between.1, same, made.low, made.size, gains.low, gains.size, c.get-high.ensures.value));
      marks = gained-marks c.in_ok-marks.marks c.mark_all.new.marks (λ _. false) _ (λ f few spans. made.none f) gains;
    }
