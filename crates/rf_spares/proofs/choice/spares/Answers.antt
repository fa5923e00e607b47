use Rattle.std.proofs.Common.{◌∙◌}
use Rattle.rf_spares.proofs.SpareLemmas.{free-at}
use Rattle.rf_spares.proofs.choice.spares.Goals as goal

pub returns-clause-free : goal.returns-clause-free
returns-clause-free c =
    let made = c.in_ok-field.ensures in
    c.from_vec.ensures ∙ (c.in_ok-free.ensures.found ∙ free-at c.in_ok-field.field (record { show = c.args.show.now; profile = c.args.profile; zone = c.args.zone })
    made.of made.known made.ats)
