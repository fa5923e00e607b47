use Rattle.std.proofs.Common.{◌∙◌, sym, subst, ap, List, arith, ◌||◌}
use Rattle.rf_exclusions.specs.declared.span.Span.{Span}
use Rattle.rf_exclusions.specs.Spans.{AreApart, has_in, between, with_span}
use Rattle.rf_exclusions.proofs.SpanLemmas.{with_span-has, with_span-apart, span_of}
use Rattle.rf_exclusions.proofs.spans.Spans.add.Goals as goal

pub invariant_of-self : goal.invariant_of-self
invariant_of-self c =
    let is = c.in_ok-spans.ensures ∙ ap (with_span (span_of c.args.lo c.args.hi)) c.as_slice.ensures.value in
    subst (λ (xs : List Span). AreApart xs) (sym is) (with_span-apart 0 (span_of c.args.lo c.args.hi) c.self.inside.items.items c.self.invariant (omega arith) c.requires)

pub returns-clause-added : goal.returns-clause-added
returns-clause-added c = λ x.
    let is = c.in_ok-spans.ensures ∙ ap (with_span (span_of c.args.lo c.args.hi)) c.as_slice.ensures.value in
    ap (λ (xs : List Span). has_in xs x) is
    ∙ (with_span-has 0 (span_of c.args.lo c.args.hi) c.self.inside.items.items x c.self.invariant c.requires
    ∙ ap (λ (xs : List Span). has_in xs x || between c.args.lo c.args.hi x) c.self.view_is)
