use Rattle.std.proofs.Common.{◌<◌, ◌∷◌, [], ◌++◌, ◌∙◌, ap, arith, length, refl, sym, filter}
use Rattle.std.proofs.lemmas.Bool.Decides.{nat_tests}
use Rattle.rf_rules.proofs.TupleLaws.{All-push, upto-zero}
use Rattle.rf_spares.specs.Fields.{channels_of, is_open, is_open_channel}
use Rattle.rf_spares.proofs.FieldLemmas.{ahead-next, khz-at, khz-spans}
use Rattle.rf_spares.proofs.ListLemmas.{filter-last, filter-yes}
use Rattle.rf_spares.proofs.field.Field.all_open.Goals as goal

pub loop-k-init : goal.loop-k-init
loop-k-init c = record {
  found = c.new-open.ensures.items ∙ sym (ap (filter (is_open_channel c.args.self.now)) upto-zero);
  within = λ k d low. absurd (omega (arith, low, ap length c.new-open.ensures.items));
  reached = λ x. grind (arith, nat_tests);
  ahead = λ j low high. let spans = c.requires.spans j high in omega (arith, spans.0);
}

pub advance-sweep-requires-clause-spans : goal.advance-sweep-requires-clause-spans
advance-sweep-requires-clause-spans c =
    khz-spans c.args.self.now _ c.loop-k.k c.freq-khz.result c.requires c.channels-channels.ensures c.freq-khz.ensures
    (omega (arith, c.loop-k-test.true, c.count-k-end.ensures.value))

pub advance-sweep-requires-clause-order : goal.advance-sweep-requires-clause-order
advance-sweep-requires-clause-order c =
    let inside : c.loop-k.k < length (channels_of c.args.self.now) = omega (arith, c.loop-k-test.true, c.count-k-end.ensures.value, ap length c.channels-channels.ensures) in
    let khz = khz-at c.args.self.now _ c.loop-k.k c.freq-khz.result c.channels-channels.ensures c.freq-khz.ensures in
    omega (arith, c.loop-k.invariant.ahead c.loop-k.k (omega arith) inside, khz)

pub is_open-requires-clause-spans : goal.is_open-requires-clause-spans
is_open-requires-clause-spans c =
    khz-spans c.args.self.now _ c.loop-k.k c.freq-khz.result c.requires c.channels-channels.ensures c.freq-khz.ensures
    (omega (arith, c.loop-k-test.true, c.count-k-end.ensures.value))

pub loop-k-preserved-then-not-is_open : goal.loop-k-preserved-then-not-is_open
loop-k-preserved-then-not-is_open c =
    let self = c.args.self.now in
    let khz = khz-at self _ c.loop-k.k c.freq-khz.result c.channels-channels.ensures c.freq-khz.ensures in
    record {
      found = c.loop-k.invariant.found ∙ sym (filter-last (is_open_channel self) _ c.loop-k.k _ (omega arith) (λ j low. refl)
          (ap (is_open self) khz ∙ sym c.is_open.ensures ∙ c.if-not-is_open.true));
      within = c.loop-k.invariant.within;
      reached = c.advance-sweep.ensures.reached;
      ahead = ahead-next (channels_of self) c.loop-k.k c.freq-khz.result _ (rw c.channels-channels.ensures at c.count-k-end.ensures.rising) khz c.advance-sweep.ensures.place;
    }

pub loop-k-preserved : goal.loop-k-preserved
loop-k-preserved c =
    let self = c.args.self.now in
    let khz = khz-at self _ c.loop-k.k c.freq-khz.result c.channels-channels.ensures c.freq-khz.ensures in
    let inside : c.loop-k.k < length (channels_of self) = omega (arith, c.loop-k-test.true, c.count-k-end.ensures.value, ap length c.channels-channels.ensures) in
    record {
      found = c.in_ok-push.ensures.items ∙ ap (λ ks. ks ++ c.loop-k.k ∷ []) c.loop-k.invariant.found
          ∙ sym (filter-yes (is_open_channel self) c.loop-k.k (ap (is_open self) khz ∙ sym c.is_open.ensures ∙ c.if-not-is_open.false));
      within = rw c.in_ok-push.ensures.items (All-push (λ j. j < length (channels_of self)) c.loop-k.open.items c.loop-k.k c.loop-k.invariant.within inside);
      reached = c.advance-sweep.ensures.reached;
      ahead = ahead-next (channels_of self) c.loop-k.k c.freq-khz.result _ (rw c.channels-channels.ensures at c.count-k-end.ensures.rising) khz c.advance-sweep.ensures.place;
    }
