-- What the lines of a show file make.
use Rattle.std.specs.Prelude.{◌≡◌, ◌+◌, ℕ, Bool, List, [], ◌∷◌, ◌++◌, length, Option, None, Result, Ok, Err, if◌then◌else◌}
use Rattle.std.specs.List.{list_any}
use Rattle.rf_base.specs.Script.{Line, short, long}
use Rattle.rf_show.specs.After.{after}
use Rattle.rf_show.specs.Show.{ShowData, first_show}
use Rattle.rf_show.specs.declared.edit.Edit.{Edit}
use Rattle.rf_show.specs.declared.refusal.Refusal.{Refusal}
use Rattle.rf_text.specs.Commands.{command_of}
use Rattle.rf_text.specs.declared.command.Command.{Command}
use Rattle.rf_text.specs.declared.command.Command.TheVariants as command
use Rattle.rf_text.specs.declared.command.UnknownLine.{UnknownLine}
use Rattle.rf_session.specs.declared.file_fault.FileFault.{FileFault}
use Rattle.rf_session.specs.declared.file_fault.FileFault.TheVariants as file
use Rattle.rf_session.specs.declared.reply.Code.TheVariants as code
use Rattle.rf_session.specs.declared.show_file.LineFault.{LineFault}
use Rattle.rf_session.specs.declared.show_file.LineFault.TheVariants.{Refused, Shelf as NotFetched, Memory as NoMemory}
use Rattle.rf_session.specs.declared.show_file.ShowFault.{ShowFault}
use Rattle.rf_session.specs.declared.show_file.ShowFault.TheVariants.{Line as BadLine, Shelf, Memory}
use Rattle.rf_session.specs.Fetches.{Fetched, fetch_of, Got, Outside, Brought, KeptCounts}
use Rattle.rf_session.specs.Files.{hot_in, profiles_in}
use Rattle.rf_session.specs.Reply.{code_of}
use Rattle.rf_session.specs.Run.{is_passed}
use Rattle.rf_session.specs.Shows.{file_of, profiles_edit, said_file, scan_edit}
use Rattle.rf_session.specs.Unfetched.{is_file}

-- Of a file that gives nothing: the shelf failed at it, or its line is refused as E10.
abbrev pub of_file_fault : FileFault → LineFault
of_file_fault file.Shelf = NotFetched
of_file_fault file.Memory = NoMemory
of_file_fault _ = Refused code.BadFile

-- an edit is made, or refused by the code of its refusal
abbrev pub made : Result ShowData Refusal → Result ShowData LineFault
made (Ok show) = Ok show
made (Err refusal) = Err (Refused (code_of refusal))

-- the edit of a file is made, or the file gives none
abbrev pub made_by : ShowData → Result Edit FileFault → Result ShowData LineFault
made_by show (Ok edit) = made (after show edit)
made_by show (Err why) = Err (of_file_fault why)

-- What a command makes of a show, where this came of the file that it names. A command that is no edit is refused as E1.
abbrev pub command_read : ShowData → Command → Got → Result ShowData LineFault
command_read show (command.Change edit) got = made (after show edit)
command_read show (command.Profiles file) got = made_by show (profiles_edit (profiles_in got))
command_read show (command.Scan file zone threshold width sep) got = made_by show (scan_edit file zone threshold width sep (hot_in sep threshold got))
command_read show _ got = Err (Refused code.UnknownLine)

abbrev pub said_read : ShowData → Result Command UnknownLine → Got → Result ShowData LineFault
said_read show (Ok command) got = command_read show command got
said_read show (Err unknown) got = Err (Refused code.UnknownLine)

-- What a line makes of a show, where this came of the file that it names. Empty lines and short comments are passed over; a long
-- line is refused as E12.
abbrev pub line_read : ShowData → Line → Got → Result ShowData LineFault
line_read show (short bytes) got = if is_passed (short bytes) then Ok show else said_read show (command_of bytes) got
line_read show long got = Err (Refused code.LongLine)

-- the file that a line names
abbrev pub line_file : Line → Option (List ℕ)
line_file (short bytes) = if is_passed (short bytes) then None else said_file (command_of bytes)
line_file long = None

-- whether one of these lines names this file
abbrev pub are_naming : List ℕ → List Line → Bool
are_naming name lines = list_any (λ line. is_file name (line_file line)) lines

-- a command comes to this, with this fetch
abbrev pub ReadsCommand : ShowData → Command → Fetched → Result ShowData LineFault → Type 0
ReadsCommand show command fetched read = (got : Got) × (fetched ≡ fetch_of (file_of command) got) × (read ≡ command_read show command got)

-- a line comes to this, with this fetch
abbrev pub ReadsLine : ShowData → Line → Fetched → Result ShowData LineFault → Type 0
ReadsLine show line fetched read = (got : Got) × (fetched ≡ fetch_of (line_file line) got) × (read ≡ line_read show line got)

-- these lines, with these fetches, make the new show of the old one, each by an edit or passed over
abbrev pub Makes : ShowData → List Line → List Fetched → ShowData → Type 0
Makes old [] [] new = new ≡ old
Makes old (line ∷ lines) (fetched ∷ fetches) new = (mid : ShowData) × ReadsLine old line fetched (Ok mid) × Makes mid lines fetches new
Makes old [] (fetched ∷ fetches) new = ⊥
Makes old (line ∷ lines) [] new = ⊥

-- The first line that makes no show is the one of this number, and this is why. Nothing is fetched after it.
pub record StopsAt (lines : List Line) (fetches : List Fetched) (number : ℕ) (fault : LineFault) : Type 0 where
  pub done : List Line
  pub line : Line
  pub rest : List Line
  pub all : lines ≡ done ++ line ∷ rest
  pub place : number ≡ length done + 1
  pub earlier : List Fetched
  pub fetched : Fetched
  pub whole : fetches ≡ earlier ++ fetched ∷ []
  pub show : ShowData
  pub makes : Makes first_show done earlier show
  pub stops : ReadsLine show line fetched (Err fault)

-- The lines of a show file, with these fetches, make this show of the first one, or make none.
abbrev pub ReadsShow : List Line → List Fetched → Result ShowData ShowFault → Type 0
ReadsShow lines fetches (Ok show) = Makes first_show lines fetches show
ReadsShow lines fetches (Err (BadLine number code)) = StopsAt lines fetches number (Refused code)
ReadsShow lines fetches (Err Shelf) = (number : ℕ) × StopsAt lines fetches number NotFetched
ReadsShow lines fetches (Err Memory) = ⊥

-- The lines of a show file came to this, over a shelf.
pub record ShowRead (lines : List Line) (before after : Outside) (read : Result ShowData ShowFault) : Type 0 where
  pub fetches : List Fetched
  pub reads : ReadsShow lines fetches read
  pub brought : Brought before after fetches
  pub kept : KeptCounts before after fetches

-- P holds of what a line came to, where memory was found and this is the show after it
abbrev pub IfLine : {X : Type 0} → Result X LineFault → ShowData → (Result ShowData LineFault → Type 0) → Type 0
IfLine (Ok done) new P = P (Ok new)
IfLine (Err (Refused code)) new P = P (Err (Refused code))
IfLine (Err NotFetched) new P = P (Err NotFetched)
IfLine (Err NoMemory) new P = Unit {0}

-- P holds of what a show file came to, where memory was found
abbrev pub IfShow : Result ShowData ShowFault → (Result ShowData ShowFault → Type 0) → Type 0
IfShow (Ok show) P = P (Ok show)
IfShow (Err (BadLine number code)) P = P (Err (BadLine number code))
IfShow (Err Shelf) P = P (Err Shelf)
IfShow (Err Memory) P = Unit {0}
