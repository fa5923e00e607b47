use Rattle.std.proofs.Common.{◌≡◌, length, take, arith, refl}
use Rattle.std.specs.List.{flat_map}
use Rattle.rf_terms.specs.Kinds.{kinds}
use Rattle.rf_rules.specs.Instances.{ats_of}
use Rattle.rf_rules.specs.Analyses.{conflicts_of}
use Rattle.rf_rules.specs.Tallies.{Extends}
use Rattle.rf_rules.proofs.AnalysisLemmas.{analysed-from}
use Rattle.rf_rules.proofs.analysis.analyse_counted.Goals as goal

pub returns-clause-value : goal.returns-clause-value
returns-clause-value c =
    let show = c.args.show.now in
    let e : take (length c.carriers.result.now) c.assigned-ats.result ≡ ats_of show = rw c.carriers.ensures.value c.assigned-ats.ensures in
    let tail : Extends c.add_carriers.new.tally c.add_broken.new.tally (flat_map (conflicts_of show (ats_of show)) kinds) = rw (c.in_ok-company.ensures.same, e) at c.in_ok-add_broken.ensures in
    analysed-from show _ _ c.new-tally.result c.add_carriers.new.tally c.add_broken.new.tally c.new-tally.ensures c.in_ok-add_carriers.ensures tail refl
    (omega (arith, c.carriers.ensures.few)) c.from_vec.ensures
