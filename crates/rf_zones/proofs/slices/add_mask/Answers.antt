use Rattle.std.proofs.Common.{sym, ◌∙◌, ap, nat_eq}
use Rattle.std.specs.List.{list_any}
use Rattle.rf_zones.proofs.MinuteLemmas.{no_more}
use Rattle.rf_zones.proofs.slices.add_mask.Goals as goal

pub returns-else-not-has_mask : goal.returns-else-not-has_mask
returns-else-not-has_mask c = λ test.
    no_more test _ c.args.mask (ap (list_any (nat_eq c.args.mask)) (sym c.deref.ensures.value) ∙ sym c.has_mask.ensures ∙ c.if-not-has_mask.false)
