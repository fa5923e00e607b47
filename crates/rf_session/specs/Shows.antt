-- The machine of a session: what it replies to a line, and its history after it.
use Rattle.std.specs.Prelude.{◌≡◌, ◌≤◌, ◌+◌, ◌&&◌, ◌⊎◌, if◌then◌else◌, nat_le, nat_lt, ℕ, Bool, true, false, List, length, take, Option, Some, None, Result, Ok, Err, ok_or, position}
use Rattle.rf_base.specs.Khz.{is_khz}
use Rattle.rf_base.specs.declared.decimal.Decimal.{Decimal}
use Rattle.rf_exclusions.specs.declared.scan_set.Sep.{Sep}
use Rattle.rf_profiles.specs.declared.profile.Profile.{Profile}
use Rattle.rf_log.specs.Solved.{Ending}
use Rattle.rf_search.specs.declared.limits.TheConstants.{MAX_BUDGET}
use Rattle.rf_show.specs.Limits.{most_carriers}
use Rattle.rf_show.specs.Show.{ShowData, is_carrier, is_profile}
use Rattle.rf_show.specs.declared.edit.Edit.{Edit}
use Rattle.rf_show.specs.declared.edit.Edit.TheVariants as edit
use Rattle.rf_show.specs.declared.refusal.Refusal.{Refusal}
use Rattle.rf_editor.specs.History.{History, edited_history, undone, redone}
use Rattle.rf_rules.specs.Analyses.{analysed}
use Rattle.rf_rules.specs.Products.{listed}
use Rattle.rf_solving.specs.Solving.{IsBegun, IsSearch, plan_ats}
use Rattle.rf_text.specs.declared.command.Command.{Command}
use Rattle.rf_text.specs.declared.command.Command.TheVariants as command
use Rattle.rf_text.specs.declared.command.UnknownLine.{UnknownLine}
use Rattle.rf_text.specs.Commands.{command_of}
use Rattle.rf_report.specs.Csv.{csv_text_of}
use Rattle.rf_text.specs.Free.{free_text_of}
use Rattle.rf_report.specs.Reports.{products_text_of, report_text_of}
use Rattle.rf_text.specs.Shows.{show_text_of}
use Rattle.rf_zones.specs.Zones.{zone_of}
use Rattle.rf_margin.specs.Widened.{Widened}
use Rattle.rf_core.specs.Blocking.{Blocking}
use Rattle.rf_spares.specs.Texts.{spares_text_of}
use Rattle.rf_session.specs.declared.answer.Answer.{Answer}
use Rattle.rf_session.specs.declared.answer.Answer.TheVariants.{Reply as Says, Inquiry as Ask, Search}
use Rattle.rf_session.specs.declared.inquiry.Inquiry.{Inquiry}
use Rattle.rf_session.specs.declared.inquiry.Inquiry.TheVariants.{Widest, Locks}
use Rattle.rf_session.specs.declared.file_fault.FileFault.{FileFault}
use Rattle.rf_session.specs.declared.machine.Stop.{Stop}
use Rattle.rf_session.specs.declared.machine.Stop.TheVariants.{Write, Memory}
use Rattle.rf_session.specs.declared.reply.Code.{Code}
use Rattle.rf_session.specs.declared.reply.Code.TheVariants.{UnknownLine as IsUnknownLine, Unknown, Number, NoStep, Full}
use Rattle.rf_session.specs.declared.reply.Reply.{Reply}
use Rattle.rf_session.specs.declared.reply.Reply.TheVariants.{Accepted, Text, Error}
use Rattle.rf_session.specs.Fetches.{Fetched, fetch_of, Got}
use Rattle.rf_session.specs.Files.{fault_reply, hot_in, profiles_in}
use Rattle.rf_session.specs.Reply.{code_of, text_of}

-- What a command comes to: what it is answered, and the history from which that is given.
pub record Outcome : Type 0 where
  pub answer : Answer
  pub history : History

abbrev pub outcome_of : Answer → History → Outcome
outcome_of answer history = record { answer = answer; history = history }

-- a reply, and the history after it
abbrev pub replied : Reply → History → Outcome
replied reply history = outcome_of (Says reply) history

-- the history moves, and the reply is `ok`; where it is refused it stays
abbrev pub moved : History → Result History Code → Outcome
moved old (Ok history) = replied Accepted history
moved old (Err code) = replied (Error code) old

-- an edit is made, or refused by the code of its refusal
abbrev pub coded : Result History Refusal → Result History Code
coded (Ok history) = Ok history
coded (Err refusal) = Err (code_of refusal)

abbrev pub edited : History → Edit → Outcome
edited history edit = moved history (coded (edited_history history edit))

-- the edit of a file is made, or the file is refused
abbrev pub edited_by : History → Result Edit FileFault → Outcome
edited_by history (Ok edit) = edited history edit
edited_by history (Err why) = replied (fault_reply why) history

-- the history stays, and the reply is a text
abbrev pub told : History → Result (List ℕ) Code → Outcome
told history (Ok text) = replied (Text text) history
told history (Err code) = replied (Error code) history

-- the text of the free channels of the carrier at this place
abbrev pub free_at : ShowData → Option ℕ → Result (List ℕ) Code
free_at show (Some place) = Ok (free_text_of show place)
free_at show None = Err Unknown

-- the text of the products between two frequencies, which are in order
abbrev pub products_at : ShowData → ℕ → ℕ → Result (List ℕ) Code
products_at show lo hi =
    if is_khz lo && is_khz hi && nat_le lo hi then Ok (products_text_of show.carriers (listed show lo hi)) else Err Number

-- the most spare channels that are taken together
abbrev pub most_spares : ℕ
most_spares = 32

-- the text of the spare channels of the profile and the zone at these places, of which so many are taken where there are
abbrev pub spares_at : ShowData → Option ℕ → Option ℕ → ℕ → Result (List ℕ) Code
spares_at show (Some profile) (Some zone) count =
    if nat_lt most_spares count then Err Number
    else (if nat_lt most_carriers (length show.carriers + count) then Err Full else Ok (spares_text_of show profile zone count))
spares_at show (Some profile) None count = Err Unknown
spares_at show None number count = Err Unknown

-- the edit that adds the profiles of a file
abbrev pub profiles_edit : Result (List Profile) FileFault → Result Edit FileFault
profiles_edit (Ok list) = Ok (edit.AddProfiles list)
profiles_edit (Err why) = Err why

-- the edit that adds a scan with the hot points of a file
abbrev pub scan_edit : List ℕ → List ℕ → Decimal → ℕ → Sep → Result (List ℕ) FileFault → Result Edit FileFault
scan_edit file zone threshold width sep (Ok hot) = Ok (edit.AddScan file sep zone threshold width hot)
scan_edit file zone threshold width sep (Err why) = Err why

-- the file that a command names
abbrev pub file_of : Command → Option (List ℕ)
file_of (command.Profiles file) = Some file
file_of (command.Scan file zone threshold width sep) = Some file
file_of _ = None

-- what is answered with this budget; one that is out of its range is refused
abbrev pub within : ℕ → Answer → Answer
within budget answer = if nat_le budget MAX_BUDGET then answer else Says (Error Number)

-- What a command comes to, where this came of the file that it names; a command that names none doesn't look at it.
abbrev pub outcome : History → Command → Got → Outcome
outcome history (command.Change edit) got = edited history edit
outcome history (command.Profiles file) got = edited_by history (profiles_edit (profiles_in got))
outcome history (command.Scan file zone threshold width sep) got = edited_by history (scan_edit file zone threshold width sep (hot_in sep threshold got))
outcome history command.Undo got = moved history (ok_or (undone history) NoStep)
outcome history command.Redo got = moved history (ok_or (redone history) NoStep)
outcome history command.Report got = told history (Ok (report_text_of history.show.carriers (analysed history.show)))
outcome history command.Csv got = told history (Ok (csv_text_of history.show.carriers (analysed history.show)))
outcome history command.Show got = told history (Ok (show_text_of history.show))
outcome history (command.Free name) got = told history (free_at history.show (position (is_carrier name) history.show.carriers))
outcome history (command.Products lo hi) got = told history (products_at history.show lo hi)
outcome history (command.Solve budget) got = outcome_of (within budget (Search budget false)) history
outcome history (command.Place budget) got = outcome_of (within budget (Search budget true)) history
outcome history (command.Widen budget) got = outcome_of (within budget (Ask (Widest budget))) history
outcome history (command.Why budget) got = outcome_of (within budget (Ask (Locks budget))) history
outcome history (command.Spares profile zone count) got =
    told history (spares_at history.show (position (is_profile profile) history.show.profiles) (zone_of history.show.zones zone) count)
outcome history command.Quit got = moved history (Ok history)

-- what a line comes to; one that is in no command's grammar is refused
abbrev pub said_outcome : History → Result Command UnknownLine → Got → Outcome
said_outcome history (Ok command) got = outcome history command got
said_outcome history (Err unknown) got = replied (Error IsUnknownLine) history

-- the file that a line names
abbrev pub said_file : Result Command UnknownLine → Option (List ℕ)
said_file (Ok command) = file_of command
said_file (Err unknown) = None

-- the history after a search: a plan that is placed is one edit, which is accepted
abbrev pub LeavesAfter : History → Bool → Option (List (Option ℕ)) → History → Type 0
LeavesAfter old true (Some ats) new = edited_history old (edit.Place ats) ≡ Ok new
LeavesAfter old true None new = new ≡ old
LeavesAfter old false ats new = new ≡ old

-- a search with at most so many branchings came to this reply, and to this history after it
abbrev pub Searches : History → ℕ → Bool → Reply → History → Type 0
Searches old n places reply new =
    (ending : Ending) × (text : List ℕ) × IsSearch old.show n ending text × (reply ≡ Text text) × LeavesAfter old places (plan_ats old.show ending) new

-- what an inquiry into a show may be answered: how much wider its margins can be, or which of its locks block a plan
abbrev pub Tells : ShowData → Inquiry → List ℕ → Type 0
Tells show (Widest n) text = Widened show n text
Tells show (Locks n) text = Blocking show n text

-- the reply is one of the texts that may be answered
abbrev pub IsTold : ShowData → Inquiry → Reply → Type 0
IsTold show inquiry reply = (text : List ℕ) × Tells show inquiry text × (reply ≡ Text text)

-- the reply that an answer gives, and the history after it: the reply itself, what an inquiry is told, or what a search comes to
abbrev pub Answers : History → Answer → Reply → History → Type 0
Answers history (Says said) reply new = (reply ≡ said) × (new ≡ history)
Answers history (Ask inquiry) reply new = IsTold history.show inquiry reply × (new ≡ history)
Answers history (Search n places) reply new = Searches history n places reply new

abbrev pub Gives : Outcome → Reply → History → Type 0
Gives outcome reply new = Answers outcome.history outcome.answer reply new

-- What the machine does with what a line says. A file that it names is fetched before anything else of it is judged; a fault of
-- the shelf is answered E11, and nothing else is, so there are as many replies E11 for a name as its fetches that were faults.
abbrev pub Obeys : History → Result Command UnknownLine → Fetched → Reply → History → Type 0
Obeys old said fetched reply new = (got : Got) × (fetched ≡ fetch_of (said_file said) got) × Gives (said_outcome old said got) reply new

-- One step of the show machine: the reply to a line, and the history after it.
abbrev pub Steps : History → List ℕ → Fetched → Reply → History → Type 0
Steps old line fetched reply new = Obeys old (command_of line) fetched reply new

-- what may be written of an answer before it comes to an end, but of its reply: of a search a part of the text of valid lines with
-- honest branchings. The text of an inquiry is whole before any of it is written.
abbrev pub LogPart : History → Answer → List ℕ → Type 0
LogPart history (Says reply) part = ⊥
LogPart history (Ask inquiry) part = ⊥
LogPart history (Search n places) part = (log : List ℕ) × IsBegun history.show n log × (k : ℕ) × (part ≡ take k log)

-- a part of a reply that an answer may give
abbrev pub ReplyPart : History → Answer → List ℕ → Type 0
ReplyPart history answer part = (reply : Reply) × (new : History) × Answers history answer reply new × (k : ℕ) × (part ≡ take k (text_of reply))

-- What may be written of an answer that is cut short: for want of memory a part of the log of a search, and where the output failed
-- such a part or a part of a whole reply.
abbrev pub AnswerPart : Stop → History → Answer → List ℕ → Type 0
AnswerPart Write history answer part = ReplyPart history answer part ⊎ LogPart history answer part
AnswerPart Memory history answer part = LogPart history answer part

abbrev pub PartsOf : History → Stop → Result Command UnknownLine → Fetched → List ℕ → Type 0
PartsOf old stop said fetched part =
    (got : Got) × (fetched ≡ fetch_of (said_file said) got) × AnswerPart stop (said_outcome old said got).history (said_outcome old said got).answer part

abbrev pub Parts : History → Stop → List ℕ → Fetched → List ℕ → Type 0
Parts old stop line fetched part = PartsOf old stop (command_of line) fetched part

-- what a line came to, with this fetch: the answer that is to be given, and the history from which it is given
abbrev pub ComesTo : History → Result Command UnknownLine → Fetched → Answer → History → Type 0
ComesTo old said fetched answer history =
    (got : Got) × (fetched ≡ fetch_of (said_file said) got) × (answer ≡ (said_outcome old said got).answer) × (history ≡ (said_outcome old said got).history)

-- the budget of an inquiry
abbrev pub budget_of : Inquiry → ℕ
budget_of (Widest n) = n
budget_of (Locks n) = n

-- an answer that can be given: the budget of an inquiry or a search is within its range
abbrev pub IsGivable : Answer → Type 0
IsGivable (Says reply) = Unit {0}
IsGivable (Ask inquiry) = budget_of inquiry ≤ MAX_BUDGET
IsGivable (Search n places) = n ≤ MAX_BUDGET
