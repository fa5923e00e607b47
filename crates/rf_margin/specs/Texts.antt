-- The text of an answer.
use Rattle.std.specs.Prelude.{◌≡◌, ℕ, ◌+◌, ◌<◌, ◌≤◌, ◌++◌, List, [], Option, Some, None, All, length}
use Rattle.std.specs.List.{count_by}
use Rattle.rf_log.specs.Walk.{is_branch}
use Rattle.rf_log.specs.declared.line.LogLine.{LogLine}
use Rattle.rf_show.specs.Show.{ShowData}
use Rattle.rf_solving.specs.Solving.{IsWritten}
use Rattle.rf_decide.specs.Texts.{IsIndexed}
use Rattle.rf_margin.specs.Answers.{IsWidened}
use Rattle.rf_margin.specs.Widened.{margin_text, refuted_text, spent_text}
use Rattle.rf_margin.specs.declared.answer.Widest.{Widest}
use Rattle.rf_margin.specs.declared.answer.Widest.TheVariants.{Greatest, Most, Refuted, Spent}

abbrev pub below_text : ShowData → Option (ℕ × List ℕ) → List ℕ
below_text show None = []
below_text show (Some below) = margin_text show below.0 below.1

abbrev pub above_text : ShowData → Option (ℕ × List LogLine) → List ℕ
above_text show None = []
above_text show (Some above) = refuted_text show above.0 above.1

-- the text of an answer; a log that is spent has as many branch lines as the budget allows
abbrev pub text_of : ShowData → Widest → List ℕ
text_of show (Greatest extra plan log) = margin_text show extra plan ++ refuted_text show (extra + 1) log
text_of show (Most plan) = margin_text show 1000 plan
text_of show (Refuted log) = refuted_text show 0 log
text_of show (Spent extra log below above) =
    below_text show below ++ (above_text show above ++ spent_text show extra log (count_by is_branch log))

-- the lines of a log over the carriers of a show can be written
abbrev pub AreWritten : ShowData → List LogLine → Type 0
AreWritten show log = All (IsWritten (length show.carriers)) log

-- below is none exactly where the extra is 0, and there above is none too
abbrev pub AreEnds : ShowData → ℕ → Option (ℕ × List ℕ) → Option (ℕ × List LogLine) → Type 0
AreEnds show extra None None = extra ≡ 0
AreEnds show extra None (Some above) = ⊥
AreEnds show extra (Some below) None = (0 < extra) × (below.0 ≤ 1000) × IsIndexed show below.1
AreEnds show extra (Some below) (Some above) = (0 < extra) × (below.0 ≤ 1000) × IsIndexed show below.1
    × (above.0 ≤ 1000) × AreWritten show above.1

-- an answer of which there is a text: its carriers and channels are there, and its numbers are within what is asked
abbrev pub CanBeWritten : ShowData → Widest → Type 0
CanBeWritten show (Greatest extra plan log) = (extra ≤ 999) × IsIndexed show plan × AreWritten show log
CanBeWritten show (Most plan) = IsIndexed show plan
CanBeWritten show (Refuted log) = AreWritten show log
CanBeWritten show (Spent extra log below above) = (extra ≤ 1000) × AreWritten show log × AreEnds show extra below above

-- what may be answered can be written
abbrev pub WidenedCanBeWritten : Type 0
WidenedCanBeWritten = (show : ShowData) (n : ℕ) (answer : Widest) → IsWidened show n answer → CanBeWritten show answer
