use Rattle.std.proofs.Common.{List, refl, sym, ◌∙◌, subst}
use Rattle.rf_log.specs.Hints.{Line}
use Rattle.rf_trail.specs.Trace.{box_of}
use Rattle.rf_propagate.specs.Laws.{Blocks, same}
use Rattle.rf_nogoods.specs.Removals.{AreAmong}
use Rattle.rf_propagate.proofs.BothLaws.{Kept, kept_on, grows_on, fewer_kept, counted_same}
use Rattle.rf_nogoods.proofs.SweepLaws.{settled_none, fit_slice, found_slice, blocks_from, left_less, not_asked, held_after}
use Rattle.rf_nogoods.proofs.nogoods.NogoodsPropagator.settle.Goals as goal

pub passes-init : goal.passes-init
passes-init g c = record { held = c.self.view_is; kept = record { counts = refl; sound = same } }

pub sweep-requires : goal.sweep-requires
sweep-requires g c =
    fit_slice (g.T.Theory.case c.args.theory.now) c.args.self.now c.as_mut_slice.result.now (g.T.Theory.lines c.args.theory.now) c.passes.trail.counts
    (c.as_mut_slice.ensures.value ∙ c.passes.invariant.held) (c.passes.invariant.kept.counts ∙ c.requires.counts) (g.met.T.Theory.in_range c.args.theory.now) c.requires.fits

pub returns-in_err-sweep-clause-sound : goal.returns-in_err-sweep-clause-sound
returns-in_err-sweep-clause-sound g c =
    grows_on c.passes.invariant.kept.sound
    (c.sweep.ensures.sound _ _ (c.passes.invariant.kept.counts ∙ c.requires.counts)
    (found_slice c.args.self.now c.as_mut_slice.result.now _ (c.as_mut_slice.ensures.value ∙ c.passes.invariant.held) (g.met.T.Theory.rising c.args.theory.now) c.requires.fits))

pub returns-in-Wiped-clause-sound : goal.returns-in-Wiped-clause-sound
returns-in-Wiped-clause-sound g c =
    grows_on c.passes.invariant.kept.sound
    (c.sweep.ensures.sound _ _ (c.passes.invariant.kept.counts ∙ c.requires.counts)
    (found_slice c.args.self.now c.as_mut_slice.result.now _ (c.as_mut_slice.ensures.value ∙ c.passes.invariant.held) (g.met.T.Theory.rising c.args.theory.now) c.requires.fits))

pub returns-then-left-before-clause-sound : goal.returns-then-left-before-clause-sound
returns-then-left-before-clause-sound g c =
    grows_on c.passes.invariant.kept.sound
    (c.sweep.ensures.sound _ _ (c.passes.invariant.kept.counts ∙ c.requires.counts)
    (found_slice c.args.self.now c.as_mut_slice.result.now _ (c.as_mut_slice.ensures.value ∙ c.passes.invariant.held) (g.met.T.Theory.rising c.args.theory.now) c.requires.fits))

pub returns-then-left-before-clause-quiet : goal.returns-then-left-before-clause-quiet
returns-then-left-before-clause-quiet g c = λ quiet. record {
  living = c.outcome_of.ensures.quiet (g.T.Theory.case c.args.theory.now) (c.sweep.ensures.counts ∙ c.passes.invariant.kept.counts ∙ c.requires.counts) c.in_default.is;
  settled = settled_none (g.T.Theory.case c.args.theory.now) _;
  allowed = λ asked. not_asked asked;
}

pub returns-then-left-before-clause-blocked : goal.returns-then-left-before-clause-blocked
returns-then-left-before-clause-blocked g c = λ quiet.
    let case = g.T.Theory.case c.args.theory.now in
    let counts = c.passes.invariant.kept.counts ∙ c.requires.counts in
    let is = c.as_mut_slice.ensures.value ∙ c.passes.invariant.held in
    subst (λ (ls : List Line). Blocks case (box_of c.sweep.new.trail) ls)
    (sym (held_after c.as_mut_slice.result.now c.sweep.new.lines c.passes.self-inside.lines.items c.args.self.now _ c.sweep.ensures.same
    (c.as_mut_slice.ensures.value ∙ c.passes.invariant.held) c.as_mut_slice.ensures.len))
    (blocks_from case _ c.args.self.now c.as_mut_slice.result.now is
    (c.in_ok-sweep.ensures.done case (g.T.Theory.lines c.args.theory.now) counts
    (found_slice c.args.self.now c.as_mut_slice.result.now _ is (g.met.T.Theory.rising c.args.theory.now) c.requires.fits)
    (counted_same c.sweep.new.trail c.passes.trail _ _ c.left.ensures c.left-before.ensures c.if-left-before.true))
    (c.outcome_of.ensures.quiet case (c.sweep.ensures.counts ∙ counts) c.in_default.is))

pub passes-smaller : goal.passes-smaller
passes-smaller g c =
    let case = g.T.Theory.case c.args.theory.now in
    let step : Kept case (g.T.Theory.lines c.args.theory.now) c.passes.trail c.sweep.new.trail = record {
      counts = c.sweep.ensures.counts;
      sound = c.sweep.ensures.sound case (g.T.Theory.lines c.args.theory.now) (c.passes.invariant.kept.counts ∙ c.requires.counts)
          (found_slice c.args.self.now c.as_mut_slice.result.now _ (c.as_mut_slice.ensures.value ∙ c.passes.invariant.held) (g.met.T.Theory.rising c.args.theory.now) c.requires.fits);
    } in
    left_less c.sweep.new.trail c.passes.trail _ _ c.left.ensures c.left-before.ensures c.if-left-before.false (fewer_kept step)

pub passes-preserved : goal.passes-preserved
passes-preserved g c = record {
  held = held_after c.as_mut_slice.result.now c.sweep.new.lines c.passes.self-inside.lines.items c.args.self.now _ c.sweep.ensures.same
      (c.as_mut_slice.ensures.value ∙ c.passes.invariant.held) c.as_mut_slice.ensures.len;
  kept = kept_on c.passes.invariant.kept (record {
    counts = c.sweep.ensures.counts;
    sound = c.sweep.ensures.sound _ _ (c.passes.invariant.kept.counts ∙ c.requires.counts)
        (found_slice c.args.self.now c.as_mut_slice.result.now _ (c.as_mut_slice.ensures.value ∙ c.passes.invariant.held) (g.met.T.Theory.rising c.args.theory.now) c.requires.fits);
  });
}

pub returns-in_err-sweep-clause-fits : goal.returns-in_err-sweep-clause-fits
returns-in_err-sweep-clause-fits g c = subst (λ (ls : List Line). AreAmong ls (g.T.Theory.lines c.args.theory.now)) (sym (
    held_after c.as_mut_slice.result.now c.sweep.new.lines c.passes.self-inside.lines.items c.args.self.now _ c.sweep.ensures.same
    (c.as_mut_slice.ensures.value ∙ c.passes.invariant.held) c.as_mut_slice.ensures.len
    )) c.requires.fits

pub returns-in_err-sweep-clause-held : goal.returns-in_err-sweep-clause-held
returns-in_err-sweep-clause-held g c =
    held_after c.as_mut_slice.result.now c.sweep.new.lines c.passes.self-inside.lines.items c.args.self.now _ c.sweep.ensures.same
    (c.as_mut_slice.ensures.value ∙ c.passes.invariant.held) c.as_mut_slice.ensures.len

pub returns-in-Wiped-clause-fits : goal.returns-in-Wiped-clause-fits
returns-in-Wiped-clause-fits g c = subst (λ (ls : List Line). AreAmong ls (g.T.Theory.lines c.args.theory.now)) (sym (
    held_after c.as_mut_slice.result.now c.sweep.new.lines c.passes.self-inside.lines.items c.args.self.now _ c.sweep.ensures.same
    (c.as_mut_slice.ensures.value ∙ c.passes.invariant.held) c.as_mut_slice.ensures.len
    )) c.requires.fits

pub returns-in-Wiped-clause-held : goal.returns-in-Wiped-clause-held
returns-in-Wiped-clause-held g c =
    held_after c.as_mut_slice.result.now c.sweep.new.lines c.passes.self-inside.lines.items c.args.self.now _ c.sweep.ensures.same
    (c.as_mut_slice.ensures.value ∙ c.passes.invariant.held) c.as_mut_slice.ensures.len

pub returns-then-left-before-clause-fits : goal.returns-then-left-before-clause-fits
returns-then-left-before-clause-fits g c = subst (λ (ls : List Line). AreAmong ls (g.T.Theory.lines c.args.theory.now)) (sym (
    held_after c.as_mut_slice.result.now c.sweep.new.lines c.passes.self-inside.lines.items c.args.self.now _ c.sweep.ensures.same
    (c.as_mut_slice.ensures.value ∙ c.passes.invariant.held) c.as_mut_slice.ensures.len
    )) c.requires.fits

pub returns-then-left-before-clause-held : goal.returns-then-left-before-clause-held
returns-then-left-before-clause-held g c =
    held_after c.as_mut_slice.result.now c.sweep.new.lines c.passes.self-inside.lines.items c.args.self.now _ c.sweep.ensures.same
    (c.as_mut_slice.ensures.value ∙ c.passes.invariant.held) c.as_mut_slice.ensures.len
