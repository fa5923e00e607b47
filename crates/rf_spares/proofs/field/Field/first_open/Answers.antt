use Rattle.std.proofs.Common.{◌≡◌, ◌∙◌, ap, arith, inl, inr, sym, slice_index}
use Rattle.std.proofs.lemmas.Bool.{cases_lt}
use Rattle.rf_spares.specs.Fields.{channels_of, is_open}
use Rattle.rf_spares.proofs.FieldLemmas.{ahead-next, khz-at}
use Rattle.rf_spares.proofs.field.Field.first_open.Goals as goal

pub loop-k-preserved : goal.loop-k-preserved
loop-k-preserved c =
    let self = c.args.self.now in
    let khz = khz-at self _ c.loop-k.k c.freq-khz.result c.channels-channels.ensures c.freq-khz.ensures in
    record {
      closed = λ k a b. elim (cases_lt k c.loop-k.k) [
        | inl low ↦ c.loop-k.invariant.closed k a low
        | inr high ↦ let same : k ≡ c.loop-k.k = omega (arith, high, b) in ap (λ j. is_open self (slice_index (channels_of self) j)) same ∙ ap (is_open self) khz
            ∙ sym c.is_open.ensures ∙ c.if-is_open.false
      ];
      reached = c.advance-sweep.ensures.reached;
      ahead = ahead-next (channels_of self) c.loop-k.k c.freq-khz.result _ (rw c.channels-channels.ensures at c.count-k-end.ensures.rising) khz c.advance-sweep.ensures.place;
    }
