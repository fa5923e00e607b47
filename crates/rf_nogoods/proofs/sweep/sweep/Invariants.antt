use Rattle.std.proofs.Common.{◌≡◌, List, All}
use Rattle.rf_log.specs.Case.{Case, counts_of}
use Rattle.rf_log.specs.Hints.{Line}
use Rattle.rf_nogoods.specs.Removals.{IsFound}
use Rattle.rf_nogoods.proofs.SweepLaws.{IsSwept}
use Rattle.rf_nogoods.proofs.sweep.sweep.Given as goal

abbrev pub invariant-loop-place : goal.invariant-loop-place
invariant-loop-place l = record {
  same : l.lines ≡ l.initial.lines;
  counts : l.trail.counts ≡ l.initial.trail.counts;
  swept : (case : Case) (all : List Line) → l.initial.trail.counts ≡ counts_of case → All (IsFound all) l.initial.lines
      → IsSwept case all l.initial.lines l.initial.trail l.trail l.place;
}
