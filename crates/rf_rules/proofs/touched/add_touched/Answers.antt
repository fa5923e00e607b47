use Rattle.std.proofs.Common.{length, ap, sym, ◌∙◌, ◌==◌}
use Rattle.std.specs.List.{list_all}
use Rattle.rf_terms.specs.Kinds.{roles_of}
use Rattle.rf_rules.specs.Conflicts.{conflict_of}
use Rattle.rf_rules.specs.Touched.{is_touched}
use Rattle.rf_rules.specs.declared.lane.Lane.{Lane}
use Rattle.rf_rules.proofs.AnalysisLemmas.{idle}
use Rattle.rf_rules.proofs.SearchLemmas.{found-whole, none-pass}
use Rattle.rf_rules.proofs.TouchLemmas.{touched-unbroken}
use Rattle.rf_rules.proofs.TallyLemmas.{nothing}
use Rattle.rf_rules.proofs.touched.add_touched.Goals as goal

pub returns : goal.returns
returns c =
    let find = conflict_of c.args.company.now.show.now c.args.ats.now c.args.kind in
    let test = is_touched c.args.company.now.show.now c.args.ats.now c.args.kind c.args.mask in
    rw (← found-whole find test (roles_of c.args.kind) (length c.args.ats.now)) c.extend_touched.ensures

pub returns-then-ask_nothing : goal.returns-then-ask_nothing
returns-then-ask_nothing c =
    let show = c.args.company.now.show.now in
    nothing c.args.tally.now _ (none-pass _ _ _ (λ u. touched-unbroken show c.args.ats.now c.args.kind c.args.mask u (idle show c.args.ats.now c.args.kind u c.requires.carriers
    (ap (list_all (λ (l : Lane). l.needs == 0)) (sym c.make_lanes-lanes.ensures.lanes) ∙ sym c.ask_nothing.ensures ∙ c.if-ask_nothing.true))))
