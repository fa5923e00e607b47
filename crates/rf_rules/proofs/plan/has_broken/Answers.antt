use Rattle.std.proofs.Common.{◌≡◌, ◌-◌, ◌∙◌, ap, arith, []}
use Rattle.rf_terms.specs.Kinds.{roles_of}
use Rattle.rf_rules.specs.Plans.{breaks_from}
use Rattle.rf_rules.proofs.plan.has_broken.Goals as goal

pub returns : goal.returns
returns c =
    let all : roles_of c.args.kind - 0 ≡ roles_of c.args.kind = omega arith in
    c.breaks.ensures ∙ ap (breaks_from c.args.show.now c.args.ats.now c.args.kind []) all
