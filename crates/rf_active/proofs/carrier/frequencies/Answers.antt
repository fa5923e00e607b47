use Rattle.std.proofs.Common.{◌≤◌, ◌∷◌, ◌++◌, [], Some, ap, sym, ◌∙◌, arith}
use Rattle.std.proofs.lemmas.List.Elements.{All-push}
use Rattle.rf_profiles.specs.Channels as profile
use Rattle.rf_active.proofs.ListLemmas.{take_more}
use Rattle.rf_active.proofs.carrier.frequencies.Goals as goal

pub loop-k-preserved : goal.loop-k-preserved
loop-k-preserved c =
    let pushed = c.in_ok-push.ensures.items in
    let before = c.loop-k.invariant in
    record {
      value = pushed ∙ ap (λ freqs. freqs ++ c.get.result ∷ []) before.value
          ∙ take_more (profile.channels c.args.channels.now) c.loop-k.k c.get.result (c.freq.ensures ∙ ap Some (sym c.get.ensures.value));
      above = rw pushed (All-push (λ f. 1 ≤ f) _ _ before.above (omega (arith, c.get.ensures.value, c.get.ensures.form)));
      below = rw pushed (All-push (λ f. f ≤ 10000000) _ _ before.below (omega (arith, c.get.ensures.value, c.get.ensures.form)));
    }
