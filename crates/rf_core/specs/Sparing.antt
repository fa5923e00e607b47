-- Locks while it is tried which of them can be spared.
use Rattle.std.specs.Prelude.{◌≡◌, ℕ, ◌+◌, ◌-◌, ◌<◌, ◌≤◌, ◌⊎◌, [], length, remove, slice_index_or}
use Rattle.rf_log.specs.Case.{IsPlan}
use Rattle.rf_log.specs.Solved.{refuted}
use Rattle.rf_show.specs.Show.{ShowData}
use Rattle.rf_show.specs.Case.{case_of}
use Rattle.rf_solving.specs.Solving.{IsSolvedBy}
use Rattle.rf_tighter.specs.Locked.{kept}
use Rattle.rf_decide.specs.Decisions.{Calls}
use Rattle.rf_core.specs.Answers.{IsBlocked}
use Rattle.rf_core.specs.Blocking.{AreLocks, locks_of}
use Rattle.rf_core.specs.declared.sparing.Held.{Held}
use Rattle.rf_core.specs.declared.sparing.Turn.{Turn}
use Rattle.rf_core.specs.declared.sparing.Turn.TheVariants.{Next, Stuck}

-- a refutation with these locks, and a plan without each of the first of them
pub record IsHeld (show : ShowData) (n : ℕ) (held : Held) : Type 0 where
  pub locks : AreLocks show 0 held.keep.items
  pub few : length held.plans.items ≤ length held.keep.items
  pub without : (i : ℕ) → i < length held.plans.items → IsPlan (case_of (kept show (remove held.keep.items i))) (slice_index_or held.plans.items i [])
  pub refutation : IsSolvedBy (kept show held.keep.items) n refuted held.log

-- how many locks weren't tried yet
abbrev pub untried : Held → ℕ
untried held = length held.keep.items - length held.plans.items

-- one lock more was tried, or the answer
abbrev pub IsTurn : ShowData → ℕ → Held → Turn → Type 0
IsTurn show n held (Next next) = IsHeld show n next × (untried next + 1 ≡ untried held)
IsTurn show n held (Stuck answer) = IsBlocked show n answer

-- no call, or one
abbrev pub AtMostOnce : {S : Type 0} → (S → ShowData → S → Type 0) → S → S → Type 0
AtMostOnce asked first last = (last ≡ first) ⊎ ((show : ShowData) × asked first show last)

-- so far at most a call for each lock that was tried
pub record IsUnderWay {S : Type 0} (asked : S → ShowData → S → Type 0) (show : ShowData) (n : ℕ) (first last : S) (held : Held) : Type 0 where
  pub holds : IsHeld show n held
  pub done : ℕ
  pub calls : Calls asked done first last
  pub sum : done + untried held ≤ length (locks_of show)
