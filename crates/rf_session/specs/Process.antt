-- All that the program does, by what its words ask for and by how it ends.
use Rattle.std.specs.Prelude.{◌≡◌, ◌≤◌, ℕ, Bool, true, false, List, Option, Some, None, IsSomeAnd, codes, length}
use Rattle.std.specs.Io.KnownBytes.{Appends}
use Rattle.rf_base.specs.Cause.{Rose}
use Rattle.rf_base.specs.Piece.{AppendsPrefix}
use Rattle.rf_base.specs.Told.{WhereTold}
use Rattle.rf_base.specs.declared.status.Status.{Status}
use Rattle.rf_base.specs.declared.status.Status.TheVariants.{Done, Refused, Words, Read, Write, Shelf, Memory, Long}
use Rattle.rf_words.specs.declared.asked.Asked.{Asked}
use Rattle.rf_words.specs.declared.asked.Asked.TheVariants.{Session, Check, Audit, Demo}
use Rattle.rf_session.specs.declared.machine.Stop.TheVariants.{Write as ByWrite, Memory as ByMemory}
use Rattle.rf_session.specs.Checked.{AsksFor, Judging, NotFound, Unjudged, Writes, WritesPart, audited, judged}
use Rattle.rf_session.specs.Demonstrated.{DemoWrites, DemoWritesPart}
use Rattle.rf_session.specs.Fetches.{Outside}
use Rattle.rf_session.specs.Top.{script_limit, Headline, IsReadThrough, RepliesToAll, RepliesToSome, RepliesToTaken}

-- All that the process touches: the bytes that are left in its input and how often that failed, its output and its files, and how
-- often the output failed.
pub record World : Type 0 where
  pub left : Option (List ℕ)
  pub read_faults : ℕ
  pub outside : Outside
  pub write_faults : ℕ

abbrev pub world : Option (List ℕ) → ℕ → Outside → ℕ → World
world left read_faults outside write_faults = record { left = left; read_faults = read_faults; outside = outside; write_faults = write_faults }

-- P holds of the bytes that were left in the input before and after, where the source tells them
abbrev pub OfInput : World → World → (List ℕ → List ℕ → Type 0) → Type 0
OfInput before after P = WhereTold before.left after.left P

-- ---- words that ask for nothing

-- They were refused by one line.
pub record WordsRefused (before after : World) : Type 0 where
  pub wrote : Appends before.outside.written after.outside.written (codes "error usage\n")

-- The output failed in that line.
pub record WordsUnwritten (before after : World) : Type 0 where
  pub cause : Rose before.write_faults after.write_faults
  pub wrote : AppendsPrefix before.outside.written after.outside.written (codes "error usage\n")

-- No memory was found for them.
pub record WordsUnread (before after : World) : Type 0 where
  pub wrote : AppendsPrefix before.outside.written after.outside.written (codes "error usage\n")

abbrev pub UsageEnds : Status → World → World → Type 0
UsageEnds Done before after = ⊥
UsageEnds Refused before after = ⊥
UsageEnds Words before after = WordsRefused before after
UsageEnds Read before after = ⊥
UsageEnds Write before after = WordsUnwritten before after
UsageEnds Shelf before after = ⊥
UsageEnds Memory before after = WordsUnread before after
UsageEnds Long before after = ⊥

-- ---- a session

-- The session came to its end, and `refusal` says whether a line was refused.
pub record SessionServed (refusal : Bool) (before after : World) : Type 0 where
  pub headline : OfInput before after (λ bytes _. Headline before.outside after.outside bytes refusal)
  pub read_through : OfInput before after (λ bytes _. IsReadThrough bytes)

-- Its input failed.
pub record SessionUnread (before after : World) : Type 0 where
  pub cause : Rose before.read_faults after.read_faults
  pub replies : OfInput before after (λ bytes left. RepliesToTaken before.outside after.outside bytes left)

-- Its output failed.
pub record SessionUnwritten (before after : World) : Type 0 where
  pub cause : Rose before.write_faults after.write_faults
  pub replies : OfInput before after (λ bytes _. RepliesToSome ByWrite before.outside after.outside bytes)

-- No memory was found.
pub record SessionCutShort (before after : World) : Type 0 where
  pub replies : OfInput before after (λ bytes _. RepliesToSome ByMemory before.outside after.outside bytes)

-- Its input is too long.
pub record SessionTooLong (before after : World) : Type 0 where
  pub replies : OfInput before after (λ bytes _. RepliesToAll before.outside after.outside bytes)

abbrev pub SessionEnds : Status → World → World → Type 0
SessionEnds Done before after = SessionServed false before after
SessionEnds Refused before after = SessionServed true before after
SessionEnds Words before after = ⊥
SessionEnds Read before after = SessionUnread before after
SessionEnds Write before after = SessionUnwritten before after
SessionEnds Shelf before after = ⊥
SessionEnds Memory before after = SessionCutShort before after
SessionEnds Long before after = SessionTooLong before after

-- ---- the judgement of a log

-- The output failed in the line of what was found.
pub record FindingUnwritten (judge : Judging) (show log : List ℕ) (before after : World) : Type 0 where
  pub cause : Rose before.write_faults after.write_faults
  pub line : WritesPart judge show log before.outside after.outside

abbrev pub JudgingEnds : Judging → List ℕ → List ℕ → Status → World → World → Type 0
JudgingEnds judge show log Done before after = Writes judge show log before.outside after.outside Done
JudgingEnds judge show log Refused before after = Writes judge show log before.outside after.outside Refused
JudgingEnds judge show log Words before after = ⊥
JudgingEnds judge show log Read before after = ⊥
JudgingEnds judge show log Write before after = FindingUnwritten judge show log before after
JudgingEnds judge show log Shelf before after = NotFound judge show log before.outside after.outside
JudgingEnds judge show log Memory before after = Unjudged show log before.outside after.outside
JudgingEnds judge show log Long before after = ⊥

-- ---- a demonstration

-- Its lines were written.
pub record DemoWritten (seed count : ℕ) (before after : World) : Type 0 where
  pub lines : DemoWrites seed count before.outside.written after.outside.written

-- The output failed in them.
pub record DemoUnwritten (seed count : ℕ) (before after : World) : Type 0 where
  pub cause : Rose before.write_faults after.write_faults
  pub lines : DemoWritesPart seed count before.outside.written after.outside.written

-- No memory was found, and nothing was written.
pub record DemoUnplayed (before after : World) : Type 0 where
  pub unwritten : after.outside.written ≡ before.outside.written

abbrev pub DemoEnds : ℕ → ℕ → Status → World → World → Type 0
DemoEnds seed count Done before after = DemoWritten seed count before after
DemoEnds seed count Refused before after = ⊥
DemoEnds seed count Words before after = ⊥
DemoEnds seed count Read before after = ⊥
DemoEnds seed count Write before after = DemoUnwritten seed count before after
DemoEnds seed count Shelf before after = ⊥
DemoEnds seed count Memory before after = DemoUnplayed before after
DemoEnds seed count Long before after = ⊥

-- ---- all of them

-- How the program ends that was asked for this: what this status says of all that it touches.
abbrev pub Ends : Option Asked → Status → World → World → Type 0
Ends None status before after = UsageEnds status before after
Ends (Some Session) status before after = SessionEnds status before after
Ends (Some (Check show log)) status before after = JudgingEnds judged show log status before after
Ends (Some (Audit show log)) status before after = JudgingEnds audited show log status before after
Ends (Some (Demo seed count)) status before after = DemoEnds seed count status before after

-- whether what is asked reads the input
abbrev pub reads_input : Option Asked → Bool
reads_input None = false
reads_input (Some Session) = true
reads_input (Some (Check show log)) = false
reads_input (Some (Audit show log)) = false
reads_input (Some (Demo seed count)) = false

-- whether what is asked may fetch files
abbrev pub fetches : Option Asked → Bool
fetches None = false
fetches (Some Session) = true
fetches (Some (Check show log)) = true
fetches (Some (Audit show log)) = true
fetches (Some (Demo seed count)) = false

-- ---- completeness

-- Nothing failed, and the script is not too long.
pub record SessionUndisturbed (before after : World) : Type 0 where
  pub input : Rose before.read_faults after.read_faults → ⊥
  pub output : Rose before.write_faults after.write_faults → ⊥
  pub small : IsSomeAnd before.left (λ bytes. length bytes ≤ script_limit)

-- Neither the output nor a file that was asked for failed.
pub record JudgingUndisturbed (judge : Judging) (show log : List ℕ) (before after : World) : Type 0 where
  pub output : Rose before.write_faults after.write_faults → ⊥
  pub files : (name : List ℕ) → AsksFor judge show log before.outside after.outside name →
      Rose (before.outside.faults name) (after.outside.faults name) → ⊥

-- nothing failed that what is asked needs
abbrev pub IsUndisturbed : Option Asked → World → World → Type 0
IsUndisturbed None before after = Rose before.write_faults after.write_faults → ⊥
IsUndisturbed (Some Session) before after = SessionUndisturbed before after
IsUndisturbed (Some (Check show log)) before after = JudgingUndisturbed judged show log before after
IsUndisturbed (Some (Audit show log)) before after = JudgingUndisturbed audited show log before after
IsUndisturbed (Some (Demo seed count)) before after = Rose before.write_faults after.write_faults → ⊥

-- the words were refused, or memory was not found
abbrev pub IsRefused : Status → Type 0
IsRefused Words = Unit {0}
IsRefused Memory = Unit {0}
IsRefused _ = ⊥

-- what was asked was done, or memory was not found
abbrev pub IsDone : Status → Type 0
IsDone Done = Unit {0}
IsDone Refused = Unit {0}
IsDone Memory = Unit {0}
IsDone _ = ⊥

abbrev pub EndsWell : Option Asked → Status → Type 0
EndsWell None status = IsRefused status
EndsWell (Some asked) status = IsDone status
