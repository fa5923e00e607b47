-- The lines of the bytes of a show's text.
use Rattle.std.specs.Prelude.{◌≡◌, ◌<◌, ◌≤◌, ◌^◌, ℕ, ◌∷◌, length, map}
use Rattle.rf_base.specs.Lines.{joined}
use Rattle.rf_base.specs.Script.{Line, lines_within, short}
use Rattle.rf_show.specs.Show.{ShowData}
use Rattle.rf_text.specs.declared.command.Command.{Command}
use Rattle.rf_text.specs.CommandTexts.{command_text_of}
use Rattle.rf_text.specs.ShowLaw.{IsWhole}
use Rattle.rf_text.specs.Shows.{comment_words, show_lines, show_text_of}

-- the comment in front of the lines
abbrev pub comment_line : ShowData → Line
comment_line show = short (joined (comment_words show))

-- the line that has the text of a command
abbrev pub line_with : Command → Line
line_with command = short (command_text_of command)

-- Where as many bytes count as the text of a show has, or more, the lines of its bytes are the comment and then, for each line
-- that makes the show, the text of that command, whole and with nothing else.
abbrev pub TextHasLines : Type 0
TextHasLines = (show : ShowData) (limit : ℕ) → IsWhole show → length (show_text_of show) ≤ limit → limit < 2 ^ 64
    → lines_within limit (show_text_of show) ≡ comment_line show ∷ map line_with (show_lines show)
