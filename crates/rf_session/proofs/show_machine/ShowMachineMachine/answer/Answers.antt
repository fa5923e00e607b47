use Rattle.std.proofs.Common.{◌∙◌, sym}
use Rattle.rf_session.specs.Fetches.{shelf_alone}
use Rattle.rf_session.proofs.Obeying.{cut_by, replied_by, unknown_obeyed}
use Rattle.rf_session.proofs.show_machine.ShowMachineMachine.answer.Goals as goal

pub returns-in-Err-clause-replied : goal.returns-in-Err-clause-replied
returns-in-Err-clause-replied g c =
    let shelf = shelf_alone (λ name. g.F.Shelf.file c.args.shelf.now name) (λ name. g.F.Shelf.faults c.args.shelf.now name) (g.F.Shelf.asked c.args.shelf.now) in
    let obeyed = unknown_obeyed c.args.self.now c.args.line.now _ shelf (sym c.read_command.ensures.exact ∙ c.in-Err.is) in
    replied_by _ _ _ _ _ _ _ _ _ _ _ _ obeyed c.give.result _ (rw c.refused.ensures at c.give.ensures.given)

pub returns-in-Err-clause-cut : goal.returns-in-Err-clause-cut
returns-in-Err-clause-cut g c =
    let shelf = shelf_alone (λ name. g.F.Shelf.file c.args.shelf.now name) (λ name. g.F.Shelf.faults c.args.shelf.now name) (g.F.Shelf.asked c.args.shelf.now) in
    let obeyed = unknown_obeyed c.args.self.now c.args.line.now _ shelf (sym c.read_command.ensures.exact ∙ c.in-Err.is) in
    cut_by _ _ _ _ _ _ _ _ _ _ _ _ obeyed c.give.result (rw c.refused.ensures at c.give.ensures.cut)
