use Rattle.std.proofs.Common.{None, refl}
use Rattle.rf_text.specs.declared.command.Command.TheVariants.{Profiles}
use Rattle.rf_session.proofs.ShowLineLaws.{command_fetched, edit_made}
use Rattle.rf_session.proofs.show_file.apply_command.Goals as goal

pub returns-in-Ok-clause-read : goal.returns-in-Ok-clause-read
returns-in-Ok-clause-read g c =
    let edit = c.profiles_edit in
    command_fetched c.make_by.result _ _ c.args.command (Profiles c.in-Profiles.file) _ _ _ _ c.in-Profiles.is refl
    (edit_made c.make_by.result _ _ edit.result _ edit.ensures.edit edit.ensures.fault c.make_by.ensures)
    (rw c.text.ensures.value at (c.in-Ok.ensures.brought None)) (rw c.text.ensures.value at c.in-Ok.ensures.kept)

pub returns-in-Ok-fetch_file-clause-read : goal.returns-in-Ok-fetch_file-clause-read
returns-in-Ok-fetch_file-clause-read g c =
    let got = c.in-Ok-fetch_file in
    let edit = c.scan_edit-edit in
    command_fetched c.make_by-in-Scan.result _ _ c.args.command _ _ _ _ _ c.in-Scan.is refl
    (edit_made c.make_by-in-Scan.result _ _ edit.result _ edit.ensures.edit edit.ensures.fault c.make_by-in-Scan.ensures)
    (rw c.text-in-Scan.ensures.value at (got.ensures.brought None)) (rw c.text-in-Scan.ensures.value at got.ensures.kept)
