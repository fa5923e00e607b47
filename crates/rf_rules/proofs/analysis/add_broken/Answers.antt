use Rattle.rf_terms.specs.declared.kind.Kind.TheVariants.{Spacing}
use Rattle.rf_rules.specs.Analyses.{conflicts_of}
use Rattle.rf_rules.proofs.TallyLemmas.{none-more, part-more}
use Rattle.rf_rules.proofs.analysis.add_broken.Goals as goal

pub loop-kind-init : goal.loop-kind-init
loop-kind-init c = none-more c.args.tally.now

pub loop-kind-preserved : goal.loop-kind-preserved
loop-kind-preserved c =
    part-more (conflicts_of c.args.company.now.show.now c.args.ats.now) c.kinds-kind-items.result.now c.loop-kind.kind-index Spacing c.args.tally.now c.loop-kind.tally
    c.add_kind.new.tally c.loop-kind-test.true c.loop-kind.invariant c.in_ok-add_kind.ensures
