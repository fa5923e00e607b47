-- What `least` may answer, and what can be written of it.
use Rattle.std.specs.Prelude.{◌≡◌, ℕ, ◌<◌, List, Bool, true, false, Option, Some, None, All, length}
use Rattle.std.specs.List.{count_by}
use Rattle.rf_log.specs.Case.{IsPlan, is_among}
use Rattle.rf_log.specs.Walk.{is_branch}
use Rattle.rf_log.specs.declared.line.LogLine.{LogLine}
use Rattle.rf_show.specs.Case.{case_of}
use Rattle.rf_show.specs.Show.{ShowData}
use Rattle.rf_solving.specs.Solving.{IsWritten}
use Rattle.rf_tighter.specs.Locked.{IsPartOf, locked_to}
use Rattle.rf_decide.specs.Texts.{IsIndexed}
use Rattle.rf_core.specs.Blocking.{AreNeeded, IsStuck, locks_reply, plan_reply, spent_reply}
use Rattle.rf_core.specs.declared.answer.Blocked.{Blocked}
use Rattle.rf_core.specs.declared.answer.Blocked.TheVariants.{Plan, Locks, Spent}

-- what may be answered with this budget
abbrev pub IsBlocked : ShowData → ℕ → Blocked → Type 0
IsBlocked show n (Plan plan) = IsPlan (case_of show) plan
IsBlocked show n (Locks keep plans log) = AreNeeded show n keep plans log
IsBlocked show n (Spent keep log dropped) = IsStuck show n keep log dropped

-- with all of these locks there is no plan; with a part of them, that leaves one out, there is one
pub record IsLeast (show : ShowData) (keep : List ℕ) : Type 0 where
  pub blocks : (more : ℕ → Bool) (plan : List ℕ) → IsPartOf (is_among keep) more → ¬ IsPlan (case_of (locked_to show more)) plan
  pub spares : (fewer : ℕ → Bool) (lost : ℕ) → IsPartOf fewer (is_among keep) → is_among keep lost ≡ true → fewer lost ≡ false
      → (plan : List ℕ) × IsPlan (case_of (locked_to show fewer)) plan

-- the locks that are answered are least by inclusion
abbrev pub LeastByInclusion : Type 0
LeastByInclusion = (show : ShowData) (n : ℕ) (keep : List ℕ) (plans : List (List ℕ)) (log : List LogLine) → IsBlocked show n (Locks keep plans log)
    → IsLeast show keep

-- ---- what can be written

-- the carriers are those of the show
abbrev pub AreCarriers : ShowData → List ℕ → Type 0
AreCarriers show set = All (λ c. c < length show.carriers) set

-- the lines of a log over the carriers of the show can be written
abbrev pub AreWritten : ShowData → List LogLine → Type 0
AreWritten show log = All (IsWritten (length show.carriers)) log

abbrev pub IsDroppedWritten : ShowData → Option (ℕ × List LogLine) → Type 0
IsDroppedWritten show None = Unit {0}
IsDroppedWritten show (Some dropped) = (dropped.0 < length show.carriers) × AreWritten show dropped.1

-- an answer of which there is a text: its carriers and channels are there, and there are as many plans as locks
abbrev pub CanBeWritten : ShowData → Blocked → Type 0
CanBeWritten show (Plan plan) = IsIndexed show plan
CanBeWritten show (Locks keep plans log) = AreCarriers show keep × All (IsIndexed show) plans × (length plans ≡ length keep) × AreWritten show log
CanBeWritten show (Spent keep log dropped) = AreCarriers show keep × IsDroppedWritten show dropped × AreWritten show log

-- the text of an answer; a log that is spent has as many branch lines as the budget allows
abbrev pub text_of : ShowData → Blocked → List ℕ
text_of show (Plan plan) = plan_reply show plan
text_of show (Locks keep plans log) = locks_reply show keep plans log
text_of show (Spent keep log dropped) = spent_reply show keep log dropped (count_by is_branch log)

-- what may be answered can be written
abbrev pub BlockedCanBeWritten : Type 0
BlockedCanBeWritten = (show : ShowData) (n : ℕ) (answer : Blocked) → IsBlocked show n answer → CanBeWritten show answer
