-- A search that is saved is accepted.
use Rattle.std.specs.Prelude.{◌≡◌, ◌≤◌, ℕ, List, All, IsTrue, Ok}
use Rattle.std.specs.List.{count_by}
use Rattle.rf_base.specs.Name.{IsName}
use Rattle.rf_log.specs.declared.line.LogLine.{LogLine}
use Rattle.rf_log.specs.declared.verdict.Verdict.{Verdict}
use Rattle.rf_log.specs.declared.verdict.Verdict.TheVariants as verdict
use Rattle.rf_log.specs.LogText.{LogData, log_of}
use Rattle.rf_log.specs.Solved.{Ending, planned, refuted, spent}
use Rattle.rf_log.specs.Walk.{is_branch, verdict_of}
use Rattle.rf_show.specs.Case.{case_of}
use Rattle.rf_show.specs.Show.{ShowData, carrier_names, is_show}
use Rattle.rf_checker.specs.Carriers.{lines_over}
use Rattle.rf_audit.specs.Audited.{IsAudited}
use Rattle.rf_audit.specs.declared.answer.Audit.{Audit}
use Rattle.rf_audit.specs.declared.answer.Audit.TheVariants.{Honest}
use Rattle.rf_search.specs.declared.limits.TheConstants.{MAX_BUDGET}
use Rattle.rf_solving.specs.Solving.{IsSearch}

-- what the checker says after these lines of a search that ended so with this budget
abbrev pub verdict_after : ℕ → List LogLine → Ending → Verdict
verdict_after n lines (planned plan) = verdict.Unfinished (count_by is_branch lines)
verdict_after n lines refuted = verdict.Closed
verdict_after n lines spent = verdict.Unfinished n

-- the text is read as a log with at most as many branchings as the budget, the checker judges it as the search ended, and an
-- audit finds all its branchings honest
pub record IsAccepted (show : ShowData) (n : ℕ) (ending : Ending) (text : List ℕ) : Type 0 where
  pub log : LogData
  pub read : log_of text ≡ Ok log
  pub within : count_by is_branch log.lines ≤ n
  pub judged : verdict_of (case_of show) (lines_over show log) ≡ verdict_after n log.lines ending
  pub audited : (found : Audit) → IsAudited (case_of show) (lines_over show log) found → found ≡ Honest (count_by is_branch log.lines)

-- what a search of a show comes to is accepted
abbrev pub SavedSearchIsAccepted : Type 0
SavedSearchIsAccepted = (show : ShowData) (n : ℕ) (ending : Ending) (text : List ℕ)
    → IsTrue (is_show show) → All IsName (carrier_names show.carriers) → n ≤ MAX_BUDGET → IsSearch show n ending text
    → IsAccepted show n ending text
