-- What a halving keeps, and how often it can be done.
use Rattle.std.proofs.Common.{◌≡◌, ℕ, zero, suc, ◌+◌, ◌-◌, ◌*◌, ◌^◌, ◌<◌, ◌≤◌, List, Some, None, sym, subst, arith, inl, inr}
use Rattle.std.proofs.Math.Nat.{pow-suc}
use Rattle.rf_log.specs.Case.{IsPlan}
use Rattle.rf_log.specs.Solved.{refuted}
use Rattle.rf_log.specs.declared.line.LogLine.{LogLine}
use Rattle.rf_show.specs.Show.{ShowData}
use Rattle.rf_show.specs.Case.{case_of}
use Rattle.rf_show.specs.Raised.{raised}
use Rattle.rf_solving.specs.Solving.{IsSolvedBy}
use Rattle.rf_decide.specs.Decisions.{Calls, no_call, and_call}
use Rattle.rf_margin.specs.Brackets.{IsBracket, whole, lower, upper, high_of, middle}
use Rattle.rf_margin.specs.Halving.{AtMostOnce, IsHeld, IsTurn, IsUnderWay}
use Rattle.rf_margin.specs.declared.bisection.Held.{Held}
use Rattle.rf_margin.specs.declared.bisection.Turn.TheVariants.{Narrower}

-- ---- the middle

middle-low : (low high : ℕ) → low + 2 ≤ high → low < middle low high
middle-low low high h = omega (arith, h)

middle-high : (low high : ℕ) → low + 2 ≤ high → middle low high < high
middle-high low high h = omega (arith, h)

upper-half : (low high : ℕ) → low + 2 ≤ high → 2 * (high - middle low high) ≤ high - low + 1
upper-half low high h = omega (arith, h)

lower-half : (low high : ℕ) → low + 2 ≤ high → 2 * (middle low high - low) ≤ high - low + 1
lower-half low high h = omega (arith, h)

-- ---- a bracket is halved

pub plan-at : (show : ShowData) (n : ℕ) (held : Held) (extra : ℕ) (plan : List ℕ) → extra ≡ middle held.below.0 (high_of held.above) → held.below.0 + 2 ≤ high_of held.above
    → IsHeld show n held → IsPlan (case_of (raised show extra)) plan → IsTurn show n held (Narrower (record { below = (extra, plan); above = held.above }))
plan-at show n held extra plan e room is has = (
  record {
    bracket = subst (λ m. IsBracket m (high_of held.above)) (sym e) (upper is.bracket room);
    low = omega (arith, e, middle-high held.below.0 (high_of held.above) room);
    high = is.high;
    plan = has;
    top = is.top;
  },
  omega (arith, e, upper-half held.below.0 (high_of held.above) room),
)

pub refuted-at : (show : ShowData) (n : ℕ) (held : Held) (extra : ℕ) (log : List LogLine) → extra ≡ middle held.below.0 (high_of held.above) → held.below.0 + 2 ≤ high_of held.above
    → IsHeld show n held → IsSolvedBy (raised show extra) n refuted log → IsTurn show n held (Narrower (record { below = held.below; above = Some (extra, log) }))
refuted-at show n held extra log e room is has = (
  record {
    bracket = subst (λ m. IsBracket held.below.0 m) (sym e) (lower is.bracket room);
    low = omega (arith, e, middle-low held.below.0 (high_of held.above) room);
    high = omega (arith, e, is.high, middle-high held.below.0 (high_of held.above) room);
    plan = is.plan;
    top = (omega (arith, e, is.high, middle-high held.below.0 (high_of held.above) room), has);
  },
  omega (arith, e, lower-half held.below.0 (high_of held.above) room),
)

-- the bracket before any halving
pub held-first : (show : ShowData) (n : ℕ) (plan : List ℕ) → raised show 0 ≡ show → IsPlan (case_of show) plan → IsHeld show n (record { below = (0, plan); above = None })
held-first show n plan same has = record {
  bracket = whole;
  low = omega arith;
  high = omega arith;
  plan = subst (λ s. IsPlan (case_of s) plan) (sym same) has;
  top = tt;
}

-- ---- how often

pub way-first : {S : Type 0} {asked : S → ShowData → S → Type 0} {first : S} (show : ShowData) (n : ℕ) (plan : List ℕ) → raised show 0 ≡ show → IsPlan (case_of show) plan
    → IsUnderWay asked show n first first (record { below = (0, plan); above = None })
way-first {S} {asked} {first} show n plan same has =
    record { holds = held-first show n plan same has; done = 0; left = 10; calls = no_call; fit = omega arith; sum = omega arith }

left_some : (w left : ℕ) → 2 ≤ w → w ≤ 2 ^ left → 1 ≤ left
left_some w zero h fit = absurd (omega (arith, h, fit))
left_some w (suc m) h fit = omega arith

pub once-more : {S : Type 0} {asked : S → ShowData → S → Type 0} {show : ShowData} {n : ℕ} {first mid last : S} {held : Held} → IsUnderWay asked show n first mid held
    → 2 ≤ high_of held.above - held.below.0 → AtMostOnce asked mid last → (x : ℕ) × (x ≤ 10) × Calls asked x first last
once-more {S} {asked} {show} {n} {first} {mid} {last} {held} u room (inl same) =
    (u.done, omega (arith, u.sum), subst (λ s. Calls asked u.done first s) (sym same) u.calls)
once-more {S} {asked} {show} {n} {first} {mid} {last} {held} u room (inr made) =
    (suc u.done, omega (arith, u.sum, left_some _ u.left room u.fit), and_call u.calls made.1)

fits-half : (w half m : ℕ) → 2 * half ≤ w + 1 → w ≤ 2 ^ suc m → half ≤ 2 ^ m
fits-half w half m h fit = let twice = pow-suc 2 m in omega (arith, h, fit, twice)

pub goes-on : {S : Type 0} {asked : S → ShowData → S → Type 0} {show : ShowData} {n : ℕ} {first mid last : S} {held next : Held} → IsUnderWay asked show n first mid held
    → 2 ≤ high_of held.above - held.below.0 → AtMostOnce asked mid last → IsTurn show n held (Narrower next) → IsUnderWay asked show n first last next
goes-on {S} {asked} {show} {n} {first} {mid} {last} {held} {next} u room made turn = by_left u.left u.fit u.sum made
  where
    by_left : (left : ℕ) → high_of held.above - held.below.0 ≤ 2 ^ left → u.done + left ≤ 10 → AtMostOnce asked mid last → IsUnderWay asked show n first last next
    by_left zero fit sum made = absurd (omega (arith, room, fit))
    by_left (suc m) fit sum (inl same) = record {
      holds = turn.0;
      done = u.done;
      left = m;
      calls = subst (λ s. Calls asked u.done first s) (sym same) u.calls;
      fit = fits-half _ _ m turn.1 fit;
      sum = omega (arith, sum);
    }
    by_left (suc m) fit sum (inr once) = record {
      holds = turn.0;
      done = suc u.done;
      left = m;
      calls = and_call u.calls once.1;
      fit = fits-half _ _ m turn.1 fit;
      sum = omega (arith, sum);
    }
