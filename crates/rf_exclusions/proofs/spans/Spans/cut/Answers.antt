use Rattle.std.proofs.Common.{◌∙◌, sym, subst, ap, List, ◌&&◌, not}
use Rattle.rf_exclusions.specs.declared.span.Span.{Span}
use Rattle.rf_exclusions.specs.Spans.{AreApart, has_in, between, without_span}
use Rattle.rf_exclusions.proofs.SpanLemmas.{without_span-has, without_span-apart, span_of}
use Rattle.rf_exclusions.proofs.spans.Spans.cut.Goals as goal

pub invariant_of-self : goal.invariant_of-self
invariant_of-self c =
    let is = c.in_ok-spans.ensures ∙ ap (without_span (span_of c.args.lo c.args.hi)) c.as_slice.ensures.value in
    subst (λ (xs : List Span). AreApart xs) (sym is) (without_span-apart 0 (span_of c.args.lo c.args.hi) c.self.inside.items.items c.self.invariant c.requires)

pub returns-clause-cut : goal.returns-clause-cut
returns-clause-cut c = λ x.
    let is = c.in_ok-spans.ensures ∙ ap (without_span (span_of c.args.lo c.args.hi)) c.as_slice.ensures.value in
    ap (λ (xs : List Span). has_in xs x) is
    ∙ (without_span-has 0 (span_of c.args.lo c.args.hi) c.self.inside.items.items x c.self.invariant c.requires
    ∙ ap (λ (xs : List Span). has_in xs x && not (between c.args.lo c.args.hi x)) c.self.view_is)
