use Rattle.std.proofs.Common.{arith}
use Rattle.std.specs.List.{flat_map}
use Rattle.rf_terms.specs.Kinds.{kinds}
use Rattle.rf_rules.specs.Tallies.{Extends}
use Rattle.rf_rules.proofs.AnalysisLemmas.{analysed-from}
use Rattle.rf_rules.specs.Renewed.{renewed_of}
use Rattle.rf_rules.proofs.renewed.renew_from.Goals as goal

pub returns-clause-value : goal.returns-clause-value
returns-clause-value c = λ right.
    let show = c.args.show.now in
    let rest = flat_map (renewed_of c.args.changed c.args.before.now show) kinds in
    let tail : Extends c.add_carriers.new.tally c.add_kinds.new.tally rest = rw c.in_ok-company.ensures.same at c.in_ok-add_kinds.ensures in
    analysed-from show rest _ c.new-tally.result c.add_carriers.new.tally c.add_kinds.new.tally c.new-tally.ensures c.in_ok-add_carriers.ensures tail right
    (omega (arith, c.carriers.ensures.few)) c.from_vec.ensures
