use Rattle.std.proofs.Common.{◌∙◌, ap, refl}
use Rattle.rf_base.specs.Script.{short}
use Rattle.rf_base.proofs.InputLaws.{IsBeyond-too_long}
use Rattle.rf_session.specs.ShowFile.{line_file}
use Rattle.rf_session.specs.Unfetched.{is_file}
use Rattle.rf_session.proofs.ShowReading.{line_unnamed}
use Rattle.rf_session.proofs.show_file.take_line.Goals as goal

pub returns-in_err-apply_line-in-Line-clause-others : goal.returns-in_err-apply_line-in-Line-clause-others
returns-in_err-apply_line-in-Line-clause-others g c = λ name none.
    c.apply_line.ensures.others name (ap (λ bytes. is_file name (line_file (short bytes))) c.line.ensures ∙ line_unnamed name _ _ _ c.in-Line.ensures.told none)

pub returns-in_ok-apply_line-in-Line-clause-others : goal.returns-in_ok-apply_line-in-Line-clause-others
returns-in_ok-apply_line-in-Line-clause-others g c = λ name none.
    c.apply_line.ensures.others name (ap (λ bytes. is_file name (line_file (short bytes))) c.line.ensures ∙ line_unnamed name _ _ _ c.in-Line.ensures.told none)

pub returns-in-TooLong-clause-takes : goal.returns-in-TooLong-clause-takes
returns-in-TooLong-clause-takes g c = ((IsBeyond-too_long _ c.in-TooLong.ensures.told).lines, refl, refl)
