use Rattle.rf_terms.specs.declared.kind.Kind.TheVariants.{Spacing}
use Rattle.rf_rules.proofs.TallyLemmas.{none-more, part-more}
use Rattle.rf_rules.specs.Renewed.{renewed_of}
use Rattle.rf_rules.proofs.renewed.add_kinds.Goals as goal

pub loop-kind-init : goal.loop-kind-init
loop-kind-init c = none-more c.args.tally.now

pub loop-kind-preserved : goal.loop-kind-preserved
loop-kind-preserved c =
    part-more (renewed_of c.args.mask c.args.before.now c.args.company.now.show.now) c.kinds-kind-items.result.now c.loop-kind.kind-index Spacing c.args.tally.now c.loop-kind.tally
    c.add_renewed.new.tally c.loop-kind-test.true c.loop-kind.invariant c.in_ok-add_renewed.ensures
