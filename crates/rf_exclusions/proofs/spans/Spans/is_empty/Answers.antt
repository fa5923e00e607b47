use Rattle.std.proofs.Common.{◌∙◌, subst, List}
use Rattle.rf_exclusions.specs.declared.span.Span.{Span}
use Rattle.rf_exclusions.specs.Spans.{AreApart}
use Rattle.rf_exclusions.proofs.SpanLemmas.{empty_iff}
use Rattle.rf_exclusions.proofs.spans.Spans.is_empty.Goals as goal

pub returns : goal.returns
returns c = empty_iff c.args.self.now c.as_slice.result.now c.is_empty.result
    (subst (λ (xs : List Span). AreApart xs) c.self.view_is c.self.invariant) (c.as_slice.ensures.value ∙ c.self.view_is) c.is_empty.ensures
