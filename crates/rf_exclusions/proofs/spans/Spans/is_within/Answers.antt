use Rattle.std.proofs.Common.{◌∙◌, sym, ap, subst, List, nat_le, ◌&&◌}
use Rattle.std.specs.List.{list_all}
use Rattle.rf_exclusions.specs.declared.span.Span.{Span}
use Rattle.rf_exclusions.specs.Spans.{AreApart}
use Rattle.rf_exclusions.proofs.SpanLemmas.{within-from, within-to}
use Rattle.rf_exclusions.proofs.spans.Spans.is_within.Goals as goal

pub returns : goal.returns
returns c =
    let same = c.as_slice.ensures.value ∙ c.self.view_is in
    let apart : AreApart c.args.self.now = subst (λ (xs : List Span). AreApart xs) c.self.view_is c.self.invariant in
    let is = c.are_within.ensures ∙ ap (λ (xs : List Span). list_all (λ span. nat_le c.args.lo span.lo && nat_le span.hi c.args.hi) xs) same in
    (λ yes. within-from 0 c.args.lo c.args.hi c.args.self.now apart (sym is ∙ yes), λ holds. is ∙ within-to 0 c.args.lo c.args.hi c.args.self.now apart holds)
