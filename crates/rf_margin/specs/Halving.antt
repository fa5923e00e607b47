-- A bracket while it is halved.
use Rattle.std.specs.Prelude.{◌≡◌, ℕ, ◌+◌, ◌*◌, ◌-◌, ◌^◌, ◌<◌, ◌≤◌, ◌⊎◌}
use Rattle.rf_log.specs.Case.{IsPlan}
use Rattle.rf_show.specs.Show.{ShowData}
use Rattle.rf_show.specs.Case.{case_of}
use Rattle.rf_show.specs.Raised.{raised}
use Rattle.rf_decide.specs.Decisions.{Calls}
use Rattle.rf_margin.specs.Brackets.{IsBracket, high_of}
use Rattle.rf_margin.specs.Answers.{IsAbove, IsWidened}
use Rattle.rf_margin.specs.declared.bisection.Held.{Held}
use Rattle.rf_margin.specs.declared.bisection.Turn.{Turn}
use Rattle.rf_margin.specs.declared.bisection.Turn.TheVariants.{Narrower, Stuck}

-- the bracket that is held: a plan at its lower end, a refutation at its upper end
pub record IsHeld (show : ShowData) (n : ℕ) (held : Held) : Type 0 where
  pub bracket : IsBracket held.below.0 (high_of held.above)
  pub low : held.below.0 < high_of held.above
  pub high : high_of held.above ≤ 1001
  pub plan : IsPlan (case_of (raised show held.below.0)) held.below.1
  pub top : IsAbove show n held.above

-- half as wide, or the answer
abbrev pub IsTurn : ShowData → ℕ → Held → Turn → Type 0
IsTurn show n held (Narrower next) = IsHeld show n next × (2 * (high_of next.above - next.below.0) ≤ high_of held.above - held.below.0 + 1)
IsTurn show n held (Stuck answer) = IsWidened show n answer

-- no call, or one
abbrev pub AtMostOnce : {S : Type 0} → (S → ShowData → S → Type 0) → S → S → Type 0
AtMostOnce asked first last = (last ≡ first) ⊎ ((show : ShowData) × asked first show last)

-- so far so many calls, and enough left for this bracket
pub record IsUnderWay {S : Type 0} (asked : S → ShowData → S → Type 0) (show : ShowData) (n : ℕ) (first last : S) (held : Held) : Type 0 where
  pub holds : IsHeld show n held
  pub done : ℕ
  pub left : ℕ
  pub calls : Calls asked done first last
  pub fit : high_of held.above - held.below.0 ≤ 2 ^ left
  pub sum : done + left ≤ 10
