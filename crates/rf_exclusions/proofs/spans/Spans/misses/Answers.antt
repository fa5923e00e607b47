use Rattle.std.proofs.Common.{◌∙◌, sym, ap, subst, List, nat_lt, ◌||◌}
use Rattle.std.specs.List.{list_all}
use Rattle.rf_exclusions.specs.declared.span.Span.{Span}
use Rattle.rf_exclusions.specs.Spans.{AreApart}
use Rattle.rf_exclusions.proofs.SpanLemmas.{misses-from, misses-to}
use Rattle.rf_exclusions.proofs.spans.Spans.misses.Goals as goal

pub returns : goal.returns
returns c =
    let same = c.as_slice.ensures.value ∙ c.self.view_is in
    let apart : AreApart c.args.self.now = subst (λ (xs : List Span). AreApart xs) c.self.view_is c.self.invariant in
    let is = c.are_outside.ensures ∙ ap (λ (xs : List Span). list_all (λ span. nat_lt span.hi c.args.lo || nat_lt c.args.hi span.lo) xs) same in
    (λ yes. misses-from 0 c.args.lo c.args.hi c.args.self.now apart (sym is ∙ yes), λ holds. is ∙ misses-to 0 c.args.lo c.args.hi c.args.self.now c.requires apart holds)
