-- The reply to `why N`: which locks block a plan.
use Rattle.std.specs.Prelude.{◌≡◌, ℕ, ◌+◌, ◌<◌, ◌≤◌, ◌++◌, List, [], ◌∷◌, Bool, false, Option, Some, None, IsTrue, codes, length, remove, slice_get, slice_index_or, if◌then◌else◌}
use Rattle.std.specs.List.{flat_map}
use Rattle.std.specs.Option.{option_map_or}
use Rattle.rf_log.specs.Case.{IsPlan, is_among}
use Rattle.rf_log.specs.LineTexts.{name_at}
use Rattle.rf_log.specs.Solved.{refuted, spent}
use Rattle.rf_log.specs.declared.line.LogLine.{LogLine}
use Rattle.rf_show.specs.Case.{case_of}
use Rattle.rf_show.specs.Show.{ShowData, carrier_names}
use Rattle.rf_show.specs.declared.carrier.Carrier.{Carrier}
use Rattle.rf_solving.specs.Solving.{IsSolvedBy, log_text}
use Rattle.rf_tighter.specs.Locked.{kept}
use Rattle.rf_decide.specs.Texts.{number_line, plan_text}

abbrev pub is_locked_at : ShowData → ℕ → Bool
is_locked_at show c = option_map_or (λ (x : Carrier). x.locked) (slice_get show.carriers c) false

-- the places of the locked ones, where the first has this place
abbrev pub locks_from : ℕ → List Carrier → List ℕ
locks_from place [] = []
locks_from place (c ∷ cs) = if c.locked then place ∷ locks_from (place + 1) cs else locks_from (place + 1) cs

-- the locked carriers, in order
abbrev pub locks_of : ShowData → List ℕ
locks_of show = locks_from 0 show.carriers

-- locked carriers in order, none before this place
abbrev pub AreLocks : ShowData → ℕ → List ℕ → Type 0
AreLocks show from [] = Unit {0}
AreLocks show from (c ∷ cs) = (from ≤ c) × IsTrue (is_locked_at show c) × AreLocks show (c + 1) cs

-- These locks block a plan: a log refutes the show with them alone. None of them can be spared: without it there is a plan.
pub record AreNeeded (show : ShowData) (n : ℕ) (keep : List ℕ) (plans : List (List ℕ)) (log : List LogLine) : Type 0 where
  pub locks : AreLocks show 0 keep
  pub each : length plans ≡ length keep
  pub without : (i : ℕ) → i < length keep → IsPlan (case_of (kept show (remove keep i))) (slice_index_or plans i [])
  pub refutation : IsSolvedBy (kept show keep) n refuted log

-- none where all locks are kept; else a locked carrier that isn't kept, and a log that refutes the show with it
abbrev pub IsDropped : ShowData → ℕ → List ℕ → Option (ℕ × List LogLine) → Type 0
IsDropped show n keep None = keep ≡ locks_of show
IsDropped show n keep (Some dropped) = IsTrue (is_locked_at show dropped.0) × (is_among keep dropped.0 ≡ false)
    × IsSolvedBy (kept show (dropped.0 ∷ keep)) n refuted dropped.1

-- the budget was used up for the show with these locks alone
pub record IsStuck (show : ShowData) (n : ℕ) (keep : List ℕ) (log : List LogLine) (dropped : Option (ℕ × List LogLine)) : Type 0 where
  pub locks : AreLocks show 0 keep
  pub used_up : IsSolvedBy (kept show keep) n spent log
  pub last : IsDropped show n keep dropped

-- ---- texts; locks change neither the names of carriers nor their channels

-- a line with a word and a name
abbrev pub name_line : List ℕ → List ℕ → List ℕ
name_line word name = word ++ (codes " " ++ (name ++ codes "\n"))

-- a line with a word and the name of a carrier
abbrev pub carrier_line : ShowData → List ℕ → ℕ → List ℕ
carrier_line show word c = name_line word (name_at (carrier_names show.carriers) c)

-- such a line for each of these carriers
abbrev pub carrier_lines : ShowData → List ℕ → List ℕ → List ℕ
carrier_lines show word set = flat_map (carrier_line show word) set

-- for each of these carriers the line `without NAME` and the lines of a plan
abbrev pub without_lines : ShowData → List ℕ → List (List ℕ) → List ℕ
without_lines show [] plans = []
without_lines show (c ∷ cs) [] = []
without_lines show (c ∷ cs) (plan ∷ plans) = carrier_line show (codes "without") c ++ (plan_text show plan ++ without_lines show cs plans)

-- the line `log`, a log, and what it comes to
abbrev pub log_part : ShowData → List LogLine → List ℕ → List ℕ
log_part show log verdict = codes "log\n" ++ (log_text show log ++ verdict)

-- the carrier that was dropped, and the refutation with it
abbrev pub dropped_part : ShowData → Option (ℕ × List LogLine) → List ℕ
dropped_part show None = []
dropped_part show (Some dropped) = carrier_line show (codes "dropped") dropped.0 ++ log_part show dropped.1 (codes "refuted\n")

abbrev pub plan_reply : ShowData → List ℕ → List ℕ
plan_reply show plan = codes "plan\n" ++ plan_text show plan

abbrev pub locks_reply : ShowData → List ℕ → List (List ℕ) → List LogLine → List ℕ
locks_reply show keep plans log = number_line (codes "why") (length keep)
    ++ (carrier_lines show (codes "blocks") keep ++ (without_lines show keep plans ++ log_part show log (codes "refuted\n")))

abbrev pub spent_reply : ShowData → List ℕ → List LogLine → Option (ℕ × List LogLine) → ℕ → List ℕ
spent_reply show keep log dropped n = number_line (codes "keeping") (length keep)
    ++ (carrier_lines show (codes "keep") keep ++ (dropped_part show dropped ++ log_part show log (number_line (codes "spent") n)))

-- What `why N` may be answered: one of three texts.
pub data Blocking (show : ShowData) (n : ℕ) (text : List ℕ) : Type 0 where
  -- a plan of the show as it is
  not_blocked : (plan : List ℕ) → IsPlan (case_of show) plan → text ≡ plan_reply show plan → Blocking show n text
  -- the locks that block a plan, a plan without each of them, and the refutation with all of them
  blocked : (keep : List ℕ) (plans : List (List ℕ)) (log : List LogLine) → AreNeeded show n keep plans log
      → text ≡ locks_reply show keep plans log → Blocking show n text
  -- the locks with which the budget was used up
  used_up : (keep : List ℕ) (log : List LogLine) (dropped : Option (ℕ × List LogLine)) → IsStuck show n keep log dropped
      → text ≡ spent_reply show keep log dropped n → Blocking show n text
