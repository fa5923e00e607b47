use Rattle.std.proofs.Common.{refl, arith, ap, ◌-◌, ◌∙◌, length-set, max}
use Rattle.rf_spares.specs.Markings.{is_marked}
use Rattle.rf_spares.proofs.ListLemmas.{mark-one}
use Rattle.rf_spares.proofs.marks.Marks.mark.Goals as goal

pub returns : goal.returns
unfolding is_marked
returns c = record {
  low = refl;
  size = length-set c.args.self.now.ends.items _ _;
  marks = λ f few spans. mark-one c.args.self.now.ends.items c.args.self.now.low c.args.lo c.args.hi f _ _ c.index.result.now (ap (λ n. n - c.args.self.now.low) c.max-start.ensures)
      (c.max.ensures ∙ ap (λ e. max e c.args.hi) c.index.ensures) (omega (arith, c.if-place-len.false, c.len.ensures)) spans.0;
}
