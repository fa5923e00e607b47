use Rattle.std.proofs.Common.{◌∙◌, subst, List, ap, sym, get_or, length}
use Rattle.rf_exclusions.specs.declared.span.Span.{Span}
use Rattle.rf_exclusions.specs.Spans.{AreApart}
use Rattle.rf_exclusions.proofs.SpanLemmas.{only_slice, span_of}
use Rattle.rf_exclusions.proofs.spans.Spans.only.Goals as goal
use Rattle.rf_exclusions.proofs.spans.Spans.only.Goals.{else-spans-eq1-via-then-spans-eq1+else-spans, else-spans-eq1-via-else-spans-eq1}

pub returns-else-spans-eq1 : goal.returns-else-spans-eq1
returns-else-spans-eq1 c = λ x only.
    let is = only_slice c.args.self.now c.as_slice-spans.result.now x
    (subst (λ (xs : List Span). AreApart xs) c.self.view_is c.self.invariant) (c.as_slice-spans.ensures.value ∙ c.self.view_is) only in
    elim c.else-spans-eq1.branch [
      | else-spans-eq1-via-then-spans-eq1+else-spans w ↦
          w.if-spans.false (ap (λ (xs : List Span). (get_or xs 0 (span_of 0 0)).lo) is ∙ sym (ap (λ (xs : List Span). (get_or xs 0 (span_of 0 0)).hi) is))
      | else-spans-eq1-via-else-spans-eq1 w ↦ w.if-spans-eq1.false (ap (λ (xs : List Span). length xs) is)
    ]
