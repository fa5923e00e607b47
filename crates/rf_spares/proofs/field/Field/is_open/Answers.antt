use Rattle.std.proofs.Common.{◌&&◌, ◌∙◌, ap, not, sym, nat_le}
use Rattle.rf_spares.proofs.FieldLemmas.{open-value}
use Rattle.rf_spares.proofs.field.Field.is_open.Goals as goal

pub returns-then-not-bans : goal.returns-then-not-bans
returns-then-not-bans c =
    ap (λ g. nat_le c.args.sweep.reach g) c.get.ensures.value
    ∙ sym (ap (λ b. not b && nat_le c.args.sweep.reach c.args.khz) c.if-not-bans.true)
    ∙ open-value c.args.self.now c.args.sweep c.args.khz c.bans.result c.requires.known c.requires.swept c.requires.spans c.get.ensures.form.1 c.bans.ensures
