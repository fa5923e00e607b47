-- What a search of a show comes to.
use Rattle.std.specs.Prelude.{◌≡◌, ℕ, List, [], ◌∷◌, ◌++◌, Option, Some, None, codes, decimal, length, map, slice_index}
use Rattle.std.specs.List.{All, flat_map, range_with_len}
use Rattle.rf_log.specs.Case.{freq_of}
use Rattle.rf_log.specs.LineTexts.{IsShortLine, line_text_of}
use Rattle.rf_log.specs.LogText.{IsLineBelow}
use Rattle.rf_log.specs.Solved.{Ending, IsStarted, IsSolved, planned, refuted, spent}
use Rattle.rf_log.specs.declared.line.LogLine.{LogLine}
use Rattle.rf_show.specs.Show.{ShowData, carrier_names}
use Rattle.rf_show.specs.Case.{case_of}

-- the frequencies that a plan gives the carriers, in kHz
abbrev pub plan_freqs : ShowData → List ℕ → List ℕ
plan_freqs show plan = map (λ c. freq_of (case_of show) c (slice_index plan c)) (range_with_len 0 (length show.carriers))

-- the line of a carrier in a plan
abbrev pub at_line : List ℕ → ℕ → List ℕ
at_line name khz = codes "at " ++ (name ++ (codes " " ++ (decimal khz ++ codes "\n")))

-- a line for each name with its frequency
abbrev pub at_lines : List (List ℕ) → List ℕ → List ℕ
at_lines [] freqs = []
at_lines (name ∷ names) [] = []
at_lines (name ∷ names) (khz ∷ freqs) = at_line name khz ++ at_lines names freqs

-- the verdict of a search with this budget
abbrev pub verdict_text : ShowData → ℕ → Ending → List ℕ
verdict_text show n (planned plan) = codes "plan\n" ++ at_lines (carrier_names show.carriers) (plan_freqs show plan)
verdict_text show n refuted = codes "refuted\n"
verdict_text show n spent = codes "spent " ++ (decimal n ++ codes "\n")

-- the text of a log
abbrev pub log_text : ShowData → List LogLine → List ℕ
log_text show log = flat_map (line_text_of (carrier_names show.carriers)) log

-- a line over so many carriers that can be written: it is of these carriers, and its numbers are short
pub record IsWritten (carriers : ℕ) (line : LogLine) : Type 0 where
  pub known : IsLineBelow carriers line
  pub short : IsShortLine line

-- A search of a show: it came to this ending with this log, whose lines can be written.
pub record IsSolvedBy (show : ShowData) (n : ℕ) (ending : Ending) (log : List LogLine) : Type 0 where
  pub solved : IsSolved (case_of show) n log ending
  pub written : All (IsWritten (length show.carriers)) log

-- A search of a show: it came to this ending, and to the text of a log and its verdict that a solver owes.
pub record IsSearch (show : ShowData) (n : ℕ) (ending : Ending) (text : List ℕ) : Type 0 where
  pub log : List LogLine
  pub solved : IsSolved (case_of show) n log ending
  pub written : All (IsWritten (length show.carriers)) log
  pub is : text ≡ log_text show log ++ verdict_text show n ending

-- The text of a log that a search was writing: its lines are valid, its branchings honest and within the budget.
pub record IsBegun (show : ShowData) (n : ℕ) (text : List ℕ) : Type 0 where
  pub log : List LogLine
  pub started : IsStarted (case_of show) n log
  pub is : text ≡ log_text show log

-- A search that has written this log, and to which this verdict belongs.
pub record IsEnded (show : ShowData) (n : ℕ) (ending : Ending) (log verdict : List ℕ) : Type 0 where
  pub begun : IsBegun show n log
  pub whole : IsSearch show n ending (log ++ verdict)

-- what a plan is applied as: a frequency for each carrier
abbrev pub plan_ats : ShowData → Ending → Option (List (Option ℕ))
plan_ats show (planned plan) = Some (map Some (plan_freqs show plan))
plan_ats show refuted = None
plan_ats show spent = None
