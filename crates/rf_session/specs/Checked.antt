-- What a check of a log over the show of a show file comes to.
use Rattle.std.specs.Prelude.{◌≡◌, ℕ, Bool, true, false, List, [], ◌∷◌, ◌++◌, Result, Ok, Err}
use Rattle.std.specs.Io.KnownBytes.{Appends}
use Rattle.std.specs.List.{list_any}
use Rattle.std.specs.Str.{bytes_eq}
use Rattle.rf_base.specs.Cause.{Rose}
use Rattle.rf_base.specs.Input.{lines_of}
use Rattle.rf_base.specs.Piece.{AppendsPrefix}
use Rattle.rf_base.specs.declared.status.Status.{Status}
use Rattle.rf_base.specs.declared.status.Status.TheVariants.{Done, Refused, Words, Read, Write, Shelf, Memory, Long}
use Rattle.rf_audit.specs.Audited.{IsAudited}
use Rattle.rf_audit.specs.declared.answer.Audit.{Audit}
use Rattle.rf_checker.specs.Carriers.{lines_over}
use Rattle.rf_log.specs.LogText.{LogData, log_of}
use Rattle.rf_log.specs.Walk.{verdict_of}
use Rattle.rf_show.specs.Case.{case_of}
use Rattle.rf_show.specs.Show.{ShowData}
use Rattle.rf_session.specs.declared.check.CheckFault.{CheckFault}
use Rattle.rf_session.specs.declared.check.CheckFault.TheVariants.{Shelf as NotFetched, Memory as NoMemory}
use Rattle.rf_session.specs.declared.finding.Finding.{Finding}
use Rattle.rf_session.specs.declared.finding.Finding.TheVariants.{Audited, Judged, ShowLine, ShowLarge, LogLine, LogLarge}
use Rattle.rf_session.specs.declared.judge.Judge.{Judge}
use Rattle.rf_session.specs.declared.judge.Judge.TheVariants.{Checker, Auditor}
use Rattle.rf_session.specs.declared.show_file.ShowFault.{ShowFault}
use Rattle.rf_session.specs.declared.show_file.ShowFault.TheVariants as show
use Rattle.rf_session.specs.Fetches.{Fetched, of_file, Got, found, too_large, fault, Outside, MayCome, asks_for, Brought, BroughtWithin, KeptCounts}
use Rattle.rf_session.specs.Finding.{finding_text, status_of}
use Rattle.rf_session.specs.ShowFile.{ReadsShow, are_naming}
use Rattle.rf_session.specs.Top.{script}

-- the largest log, in bytes
abbrev pub log_limit : ℕ
log_limit = 268_435_456

-- what may be found in a log over a show
abbrev pub Judging : Type 1
Judging = ShowData → LogData → Finding → Type 0

-- a log is judged by its walk
abbrev pub judged : Judging
judged show log finding = finding ≡ Judged (verdict_of (case_of show) (lines_over show log))

-- a log is audited line by line
abbrev pub audited : Judging
audited show log finding = (audit : Audit) × IsAudited (case_of show) (lines_over show log) audit × (finding ≡ Audited audit)

-- what a judge finds
abbrev pub judging_of : Judge → Judging
judging_of Checker = judged
judging_of Auditor = audited

-- a log over a show comes to this, or a text that is no log
abbrev pub FindsOf : Judging → ShowData → Result LogData ℕ → Result Finding CheckFault → Type 0
FindsOf judge show (Ok log) end = (finding : Finding) × judge show log finding × (end ≡ Ok finding)
FindsOf judge show (Err line) end = end ≡ Ok (LogLine line)

-- what came of the log's file comes to this
abbrev pub FindsOn : Judging → ShowData → Got → Result Finding CheckFault → Type 0
FindsOn judge show (found bytes) end = FindsOf judge show (log_of bytes) end
FindsOn judge show too_large end = end ≡ Ok LogLarge
FindsOn judge show fault end = end ≡ Err NotFetched

-- the log is fetched, and judged over the show
abbrev pub FindsInLog : Judging → ShowData → List ℕ → List Fetched → Result Finding CheckFault → Type 0
FindsInLog judge show log last end = (got : Got) × (last ≡ of_file log got ∷ []) × FindsOn judge show got end

-- the lines of the show's file came to this
abbrev pub FindsAfter : Judging → Result ShowData ShowFault → List ℕ → List Fetched → Result Finding CheckFault → Type 0
FindsAfter judge (Ok show) log last end = FindsInLog judge show log last end
FindsAfter judge (Err (show.Line number code)) log last end = (last ≡ []) × (end ≡ Ok (ShowLine number code))
FindsAfter judge (Err show.Shelf) log last end = (last ≡ []) × (end ≡ Err NotFetched)
FindsAfter judge (Err show.Memory) log last end = ⊥

-- the show's file has these bytes
abbrev pub FindsOver : Judging → List ℕ → List ℕ → List Fetched → List Fetched → Result Finding CheckFault → Type 0
FindsOver judge bytes log lines last end =
    (read : Result ShowData ShowFault) × ReadsShow (lines_of (script bytes)) lines read × FindsAfter judge read log last end

-- this came of the show's file
abbrev pub FindsFrom : Judging → Got → List ℕ → List Fetched → List Fetched → Result Finding CheckFault → Type 0
FindsFrom judge (found bytes) log lines last end = FindsOver judge bytes log lines last end
FindsFrom judge too_large log lines last end = (lines ≡ []) × (last ≡ []) × (end ≡ Ok ShowLarge)
FindsFrom judge fault log lines last end = (lines ≡ []) × (last ≡ []) × (end ≡ Err NotFetched)

-- A check of a log over a show, with these fetches, comes to this. The show's file is fetched, and then, line by line up to the first
-- that makes no show, the files that its lines name; last, where the show is made, the log.
abbrev pub Finds : Judging → List ℕ → List ℕ → List Fetched → List Fetched → Result Finding CheckFault → Type 0
Finds judge show log first last end = (got : Got) × (lines : List Fetched) × (first ≡ of_file show got ∷ lines) × FindsFrom judge got log lines last end

-- A check came to this, over a shelf that brought what was asked for. The counts of all other files stayed as they were.
pub record Fetching (goes : List Fetched → List Fetched → Type 0) (before after : Outside) : Type 0 where
  pub first : List Fetched
  pub last : List Fetched
  pub finds : goes first last
  pub mid : Outside
  pub brought : Brought before mid first
  pub brought_log : BroughtWithin log_limit mid after last
  pub kept : KeptCounts before after (first ++ last)

-- this file was asked for
abbrev pub IsAsked : {goes : List Fetched → List Fetched → Type 0} {before after : Outside} → Fetching goes before after → List ℕ → Type 0
IsAsked run name = list_any (asks_for name) (run.first ++ run.last) ≡ true

-- what a check finds over a shelf, stage by stage: from the start, over the show of these bytes, and in the log of a file

abbrev pub Found : Judging → List ℕ → List ℕ → Outside → Outside → Result Finding CheckFault → Type 0
Found judge show log before after end = Fetching (λ first last. Finds judge show log first last end) before after

abbrev pub FoundOver : Judging → List ℕ → List ℕ → Outside → Outside → Result Finding CheckFault → Type 0
FoundOver judge bytes log before after end = Fetching (λ lines last. FindsOver judge bytes log lines last end) before after

abbrev pub FoundInLog : Judging → ShowData → List ℕ → Outside → Outside → Result Finding CheckFault → Type 0
FoundInLog judge show log before after end = Fetching (λ lines last. (lines ≡ []) × FindsInLog judge show log last end) before after

-- P holds of what a check found, where memory was found
abbrev pub IfFound : Result Finding CheckFault → (Result Finding CheckFault → Type 0) → Type 0
IfFound (Ok finding) P = P (Ok finding)
IfFound (Err NotFetched) P = P (Err NotFetched)
IfFound (Err NoMemory) P = Unit {0}

-- A check asks for this file.
pub record AsksFor (judge : Judging) (show log : List ℕ) (before after : Outside) (name : List ℕ) : Type 0 where
  pub end : Result Finding CheckFault
  pub run : Found judge show log before after end
  pub asks : IsAsked run name

-- whether a line of the show's file, of which this came, names this file
abbrev pub is_named : Got → List ℕ → Bool
is_named (found bytes) name = are_naming name (lines_of (script bytes))
is_named too_large name = false
is_named fault name = false

-- The counts of files that neither the words nor a line of the show's file name stayed as they were.
pub record KeepsOthers (show log : List ℕ) (before after : Outside) : Type 0 where
  pub got : Got
  pub may : MayCome (before.file show) got
  pub others : (name : List ℕ) → bytes_eq show name ≡ false → bytes_eq log name ≡ false → is_named got name ≡ false → after.faults name ≡ before.faults name

-- A check wrote its finding, and ended with the finding's status.
pub record Writes (judge : Judging) (show log : List ℕ) (before after : Outside) (status : Status) : Type 0 where
  pub finding : Finding
  pub run : Found judge show log before after (Ok finding)
  pub wrote : Appends before.written after.written (finding_text finding)
  pub ends : status ≡ status_of finding

-- The sink failed at the finding.
pub record WritesPart (judge : Judging) (show log : List ℕ) (before after : Outside) : Type 0 where
  pub finding : Finding
  pub run : Found judge show log before after (Ok finding)
  pub wrote : AppendsPrefix before.written after.written (finding_text finding)

-- No memory was found, and nothing was written.
pub record Unjudged (show log : List ℕ) (before after : Outside) : Type 0 where
  pub unwritten : after.written ≡ before.written
  pub keeps : KeepsOthers show log before after

-- The shelf failed at a file for which the check asked, the last one, and nothing was written.
pub record NotFound (judge : Judging) (show log : List ℕ) (before after : Outside) : Type 0 where
  pub run : Found judge show log before after (Err NotFetched)
  pub unwritten : after.written ≡ before.written
  pub name : List ℕ
  pub asks : IsAsked run name
  pub rose : Rose (before.faults name) (after.faults name)

-- how a check of a log over a show ends
abbrev pub Checks : Judging → Status → List ℕ → List ℕ → Outside → Outside → Type 0
Checks judge Done show log before after = Writes judge show log before after Done
Checks judge Refused show log before after = Writes judge show log before after Refused
Checks judge Shelf show log before after = NotFound judge show log before after
Checks judge Write show log before after = WritesPart judge show log before after
Checks judge Memory show log before after = Unjudged show log before after
Checks judge Words show log before after = ⊥
Checks judge Read show log before after = ⊥
Checks judge Long show log before after = ⊥
