-- What a check or an audit of a log finds, and the line of it.
use Rattle.std.specs.Prelude.{◌≡◌, ℕ, List, ◌++◌, codes, decimal}
use Rattle.std.specs.Io.KnownBytes.{Appends}
use Rattle.std.specs.declared.option.Option.{Option}
use Rattle.rf_audit.specs.declared.answer.Audit.{Audit}
use Rattle.rf_audit.specs.declared.answer.Audit.TheVariants as audit
use Rattle.rf_base.specs.Piece.{AppendsPrefix}
use Rattle.rf_base.specs.declared.status.Status.{Status}
use Rattle.rf_base.specs.declared.status.Status.TheVariants.{Done, Refused, Words, Read, Write, Shelf, Memory, Long}
use Rattle.rf_log.specs.declared.verdict.Cause.{Cause}
use Rattle.rf_log.specs.declared.verdict.Cause.TheVariants as cause
use Rattle.rf_log.specs.declared.verdict.Verdict.{Verdict}
use Rattle.rf_log.specs.declared.verdict.Verdict.TheVariants as verdict
use Rattle.rf_session.specs.declared.finding.Finding.{Finding}
use Rattle.rf_session.specs.declared.finding.Finding.TheVariants.{Audited, Judged, ShowLine, ShowLarge, LogLine, LogLarge}
use Rattle.rf_session.specs.Reply.{code_word}

abbrev pub cause_word : Cause → List ℕ
cause_word cause.Closed = codes "closed"
cause_word cause.Name = codes "name"
cause_word cause.Index = codes "index"
cause_word cause.Line = codes "line"
cause_word cause.Hint = codes "hint"
cause_word cause.Empty = codes "empty"
cause_word cause.Path = codes "path"

abbrev pub verdict_words : Verdict → List ℕ
verdict_words verdict.Closed = codes "refuted"
verdict_words (verdict.Unfinished branchings) = codes "open " ++ decimal branchings
verdict_words (verdict.Refused line cause) = codes "refused " ++ decimal line ++ codes " " ++ cause_word cause

abbrev pub audit_words : Audit → List ℕ
audit_words (audit.Honest branchings) = codes "honest " ++ decimal branchings
audit_words (audit.Dishonest line) = codes "dishonest " ++ decimal line
audit_words (audit.Refused line cause) = codes "refused " ++ decimal line ++ codes " " ++ cause_word cause

abbrev pub finding_words : Finding → List ℕ
finding_words (Judged verdict) = verdict_words verdict
finding_words (Audited audit) = audit_words audit
finding_words (ShowLine line code) = codes "error show line " ++ decimal line ++ codes " " ++ code_word code
finding_words ShowLarge = codes "error show large"
finding_words (LogLine line) = codes "error log line " ++ decimal line
finding_words LogLarge = codes "error log large"

-- the line that is written of a finding
abbrev pub finding_text : Finding → List ℕ
finding_text finding = finding_words finding ++ codes "\n"

-- the status of a finding: all is done exactly where the log is closed, or is honest where it is audited
abbrev pub status_of : Finding → Status
status_of (Judged verdict.Closed) = Done
status_of (Audited (audit.Honest branchings)) = Done
status_of _ = Refused

-- what a status says of the writing of a finding
abbrev pub Tells : Finding → Status → Option (List ℕ) → Option (List ℕ) → Type 0
Tells finding Done before after = (status_of finding ≡ Done) × Appends before after (finding_text finding)
Tells finding Refused before after = (status_of finding ≡ Refused) × Appends before after (finding_text finding)
Tells finding Write before after = AppendsPrefix before after (finding_text finding)
Tells finding Memory before after = after ≡ before
Tells finding Words before after = ⊥
Tells finding Read before after = ⊥
Tells finding Shelf before after = ⊥
Tells finding Long before after = ⊥
