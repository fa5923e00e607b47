use Rattle.std.proofs.Common.{◌∙◌, sym}
use Rattle.rf_text.proofs.RunLemmas.{khz_is, run_line_is}
use Rattle.rf_text.proofs.free.write_run.Goals as goal

pub returns : goal.returns
returns c =
    let lowest = khz_is c.args.show.now c.args.carrier c.args.first _ c.freq.result c.profile_of.ensures.value c.freq.ensures ∙ sym c.get-lowest.ensures.value in
    let highest = khz_is c.args.show.now c.args.carrier _ _ c.freq-2.result c.profile_of.ensures.value c.freq-2.ensures ∙ sym c.get-highest.ensures.value in
    rw (run_line_is c.args.show.now c.args.carrier c.args.first c.args.stop _ _ c.requires.order lowest highest) c.write_numbers_line.ensures
