use Rattle.std.proofs.Common.{List, ap, sym, ◌∙◌, arith, length, slice_get}
use Rattle.rf_show.specs.After.{edited}
use Rattle.rf_show.specs.declared.edit.Edit.TheVariants.{Unlock}
use Rattle.rf_show.specs.Show.{has_carrier}
use Rattle.rf_show.specs.declared.carrier.Carrier.{Carrier}
use Rattle.rf_core.specs.Unlocking.{is_left}
use Rattle.rf_core.proofs.UnlockLemmas.{eased-first, eased-given, eased-kept, eased-last, got, has-locked}
use Rattle.rf_core.proofs.locks.eased.Goals.{then-not-is_among, else-not-is_among}
use Rattle.rf_core.proofs.locks.eased.Goals as goal

pub loop-i-init : goal.loop-i-init
loop-i-init c =
    c.in_ok-eased.ensures
    ∙ sym (c.all_locks_are_kept.ensures c.args.show.now (is_left c.args.keep.now 0) (λ i carrier e locked. eased-first c.args.keep.now i))

pub unlock-requires : goal.unlock-requires
unlock-requires c =
    let there = got c.carriers-carriers.result.now c.loop-i.i c.index-carriers-i.result c.loop-i-test.true c.index-carriers-i.is in
    ap (λ (x : Carrier). has_carrier c.loop-i.eased.carriers x.name) (sym c.index-carriers-i.is)
    ∙ ap (λ show. has_carrier show.carriers c.index-carriers-i.result.name) c.loop-i.invariant
    ∙ has-locked 0 (is_left c.args.keep.now c.loop-i.i) c.args.show.now.carriers c.loop-i.i c.index-carriers-i.result
    (sym (ap (λ (cs : List Carrier). slice_get cs c.loop-i.i) c.carriers-carriers.ensures.value) ∙ there)

pub loop-i-preserved : goal.loop-i-preserved
loop-i-preserved c = elim c.if-not-is_among.branch [
  | then-not-is_among w ↦
      let there = got c.carriers-carriers.result.now c.loop-i.i w.index-carriers-i.result c.loop-i-test.true w.index-carriers-i.is in
      w.eased-is ∙ w.unlock.ensures ∙ ap (λ (x : Carrier). edited c.loop-i.eased (Unlock x.name)) (sym w.index-carriers-i.is)
      ∙ ap (λ show. edited show (Unlock w.index-carriers-i.result.name)) c.loop-i.invariant
      ∙ eased-given c.args.show.now c.args.keep.now c.loop-i.i w.index-carriers-i.result c.carriers-carriers.ensures.form
      (sym (ap (λ (cs : List Carrier). slice_get cs c.loop-i.i) c.carriers-carriers.ensures.value) ∙ there) (sym c.is_among.ensures ∙ w.if-not-is_among.true)
  | else-not-is_among w ↦
      w.eased-is ∙ c.loop-i.invariant ∙ eased-kept c.args.show.now c.args.keep.now c.loop-i.i (sym c.is_among.ensures ∙ w.if-not-is_among.false)
]

pub returns : goal.returns
returns c =
    c.loop-i.invariant
    ∙ eased-last c.args.show.now c.args.keep.now c.loop-i.i (omega (arith, c.loop-i-test.false, ap (λ (cs : List Carrier). length cs) c.carriers-carriers.ensures.value))
