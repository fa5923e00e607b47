use Rattle.std.proofs.Common.{None, refl}
use Rattle.rf_text.specs.declared.command.Command.TheVariants.{Profiles}
use Rattle.rf_session.proofs.Obeying.{givable_by, obeyed_by}
use Rattle.rf_session.proofs.show_machine.ShowMachine.obey.Goals as goal

pub returns-in_ok-got-in-Profiles-clause-obeyed : goal.returns-in_ok-got-in-Profiles-clause-obeyed
returns-in_ok-got-in-Profiles-clause-obeyed g c =
    let got = c.in_ok-got-in-Profiles in
    let edit = c.profiles_edit-edit in
    obeyed_by c.change_by.result _ _ c.args.command (Profiles c.in-Profiles.file) _ _ edit.result _ _ _ c.in-Profiles.is refl refl
    edit.ensures.edit edit.ensures.fault c.change_by.ensures.memory c.change_by.ensures.answer c.change_by.ensures.history
    (rw c.text.ensures.value at (got.ensures.brought None)) (rw c.text.ensures.value at got.ensures.kept)

pub returns-in_ok-got-in-Scan-clause-obeyed : goal.returns-in_ok-got-in-Scan-clause-obeyed
returns-in_ok-got-in-Scan-clause-obeyed g c =
    let got = c.in_ok-got-in-Scan in
    let edit = c.scan_edit-edit in
    obeyed_by c.change_by-in-Scan.result _ _ c.args.command _ _ _ edit.result _ _ _ c.in-Scan.is refl refl
    edit.ensures.edit edit.ensures.fault c.change_by-in-Scan.ensures.memory c.change_by-in-Scan.ensures.answer c.change_by-in-Scan.ensures.history
    (rw c.text-in-Scan.ensures.value at (got.ensures.brought None)) (rw c.text-in-Scan.ensures.value at got.ensures.kept)

pub returns-in_ok-got-in-Scan-clause-givable : goal.returns-in_ok-got-in-Scan-clause-givable
returns-in_ok-got-in-Scan-clause-givable g c = givable_by c.change_by-in-Scan.result c.args.self.now c.scan_edit-edit.result c.change_by-in-Scan.ensures.answer
