use Rattle.std.proofs.Common.{◌∙◌, sym}
use Rattle.rf_spares.proofs.RunLemmas.{khz_is, run_line_is}
use Rattle.rf_spares.proofs.text.write_run.Goals as goal

pub returns : goal.returns
returns c =
    let lowest = khz_is c.args.channels.now c.args.first c.freq.result c.freq.ensures ∙ sym c.get-lowest.ensures.value in
    let highest = khz_is c.args.channels.now _ c.freq-2.result c.freq-2.ensures ∙ sym c.get-highest.ensures.value in
    rw (run_line_is c.args.channels.now c.args.first c.args.stop _ _ c.requires.order lowest highest) c.write_numbers.ensures
