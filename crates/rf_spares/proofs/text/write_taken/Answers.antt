use Rattle.std.proofs.Common.{◌∙◌, get_or, sym, string_bytes}
use Rattle.rf_spares.proofs.RunLemmas.{khz_is, takes_more}
use Rattle.rf_spares.proofs.text.write_taken.Goals as goal

pub loop-k-preserved : goal.loop-k-preserved
loop-k-preserved c =
    let ks = c.args.ks.now in
    takes_more c.args.channels.now ks c.loop-k.k-index c.get.result (string_bytes c.args.text.now)
    (string_bytes c.loop-k.text) (string_bytes c.write_take.new.text) c.loop-k.invariant c.loop-k-test.true
    (khz_is c.args.channels.now (get_or ks c.loop-k.k-index 0) c.freq.result c.freq.ensures ∙ sym c.get.ensures.value) c.in_ok-write_take.ensures
