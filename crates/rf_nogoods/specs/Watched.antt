-- What the watches of a line say. Nothing of it depends on what is left.
use Rattle.std.specs.Prelude.{◌≡◌, ℕ, ◌<◌, List, Option, Some, None, false, length, slice_index_or}
use Rattle.rf_log.specs.declared.cond.Cond.{Cond}
use Rattle.rf_log.specs.Box.{is_met}
use Rattle.rf_nogoods.specs.declared.watch.Watch.{Watch}
use Rattle.rf_nogoods.specs.declared.watch.Watches.{Watches}

-- an index of the condition's carrier that does not meet it
pub record IsWatchOf (cond : Cond) (watch : Watch) : Type 0 where
  pub carrier : watch.carrier ≡ cond.carrier
  pub unmet : is_met cond watch.index ≡ false

-- two places of the line, each with a watch of its condition
pub record AreWatches (conds : List Cond) (watches : Watches) : Type 0 where
  pub i : ℕ
  pub j : ℕ
  pub apart : i < j
  pub known : j < length conds
  pub first : (d : Cond) → IsWatchOf (slice_index_or conds i d) watches.first
  pub second : (d : Cond) → IsWatchOf (slice_index_or conds j d) watches.second

-- a line need not be watched
abbrev pub AreKept : List Cond → Option Watches → Type 0
AreKept conds None = Unit {0}
AreKept conds (Some watches) = AreWatches conds watches
