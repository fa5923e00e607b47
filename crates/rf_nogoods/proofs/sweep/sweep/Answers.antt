use Rattle.std.proofs.Common.{ℕ, length, refl, ◌∙◌, ap, subst, arith, slice_set, slice_index_or}
use Rattle.std.proofs.lemmas.List.{set-get_or}
use Rattle.rf_log.specs.Hints.{Line}
use Rattle.rf_trail.specs.Trace.{box_of}
use Rattle.rf_propagate.specs.Laws.{same}
use Rattle.rf_propagate.proofs.BothLaws.{grows_on}
use Rattle.rf_nogoods.specs.Removals.{AreDone}
use Rattle.rf_nogoods.proofs.SweepLaws.{swept_none, swept_more, item_found, item_is}
use Rattle.rf_nogoods.proofs.sweep.sweep.Goals as goal

pub loop-place-init : goal.loop-place-init
loop-place-init c = record { same = refl; counts = refl; swept = λ case all counts found. swept_none case all c.args.lines.now c.args.trail.now same }

pub returns-in_err-apply-clause-sound : goal.returns-in_err-apply-clause-sound
returns-in_err-apply-clause-sound c = λ case all counts found.
    grows_on (c.loop-place.invariant.swept case all counts found).kept.sound
    (c.apply.ensures.sound case all (c.loop-place.invariant.counts ∙ counts)
    (item_found all c.loop-place.lines c.args.lines.now c.loop-place.place _ c.loop-place.invariant.same found (omega (arith, ap length c.loop-place.invariant.same))))

pub loop-place-preserved : goal.loop-place-preserved
loop-place-preserved c = record {
  same = ap (λ (x : Line). slice_set c.loop-place.lines c.loop-place.place x) c.apply.ensures.same
      ∙ (set-get_or c.loop-place.lines c.loop-place.place _ ∙ c.loop-place.invariant.same);
  counts = c.apply.ensures.counts ∙ c.loop-place.invariant.counts;
  swept = λ case all counts found.
      let before = c.loop-place.invariant.counts ∙ counts in
      let same_lines = c.loop-place.invariant.same in
      let line = slice_index_or c.loop-place.lines c.loop-place.place c.index-lines-place.result in
      swept_more case all c.args.lines.now c.args.trail.now c.loop-place.trail c.apply.new.trail c.loop-place.place line
      (λ d low. item_is c.loop-place.lines c.args.lines.now c.loop-place.place c.index-lines-place.result d same_lines low)
      (c.loop-place.invariant.swept case all counts found)
      (record {
        counts = c.apply.ensures.counts;
        sound = c.apply.ensures.sound case all before
            (item_found all c.loop-place.lines c.args.lines.now c.loop-place.place c.index-lines-place.result same_lines found (omega (arith, ap length same_lines)));
      })
      (c.in_ok-apply.ensures.done case before);
}

pub returns-clause-done : goal.returns-clause-done
returns-clause-done c = λ case all counts found as_many.
    subst (λ (n : ℕ). AreDone case (box_of c.loop-place.trail) c.args.lines.now n) (omega (arith, ap length c.loop-place.invariant.same))
    ((c.loop-place.invariant.swept case all counts found).done as_many)
