-- What the reading of the next line of a show file says.
use Rattle.std.specs.Prelude.{◌≡◌, [], Result, Ok, Err}
use Rattle.rf_base.specs.Input.{Input, TakesLine, lines_of}
use Rattle.rf_base.specs.Script.{Line}
use Rattle.rf_show.specs.Show.{ShowData}
use Rattle.rf_session.specs.declared.show_file.LineFault.{LineFault}
use Rattle.rf_session.specs.declared.show_file.LineFault.TheVariants.{Refused, Shelf, Memory}
use Rattle.rf_session.specs.declared.show_file.Taken.{Taken}
use Rattle.rf_session.specs.declared.show_file.Taken.TheVariants.{Line as OneLine, End}
use Rattle.rf_session.specs.Fetches.{Outside, Obeyed}
use Rattle.rf_session.specs.ShowFile.{ReadsLine}

-- the reader gave a line, which came to this
abbrev pub Reads : ShowData → Result ShowData LineFault → Outside → Outside → Input → Input → Type 0
Reads old read before after input rest = (line : Line) × TakesLine line input rest × Obeyed (λ fetched. ReadsLine old line fetched read) before after

-- what an answer says of the show, of the shelf, and of what the reader still has to give
abbrev pub Takes : Result Taken LineFault → ShowData → ShowData → Outside → Outside → Input → Input → Type 0
Takes (Ok OneLine) old new before after input rest = Reads old (Ok new) before after input rest
Takes (Ok End) old new before after input rest = (lines_of input ≡ []) × (new ≡ old) × (after ≡ before)
Takes (Err (Refused code)) old new before after input rest = Reads old (Err (Refused code)) before after input rest
Takes (Err Shelf) old new before after input rest = Reads old (Err Shelf) before after input rest
Takes (Err Memory) old new before after input rest = Unit {0}
