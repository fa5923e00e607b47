use Rattle.std.proofs.Common.{◌≡◌, ◌≤◌, length, ap, ◌∙◌, arith}
use Rattle.std.proofs.lemmas.Result.{IfOk-weaker}
use Rattle.rf_rules.specs.Analyses.{analysis}
use Rattle.rf_rules.specs.Renewed.{renewed}
use Rattle.rf_rules.specs.declared.analysis.Analysis.{Analysis}
use Rattle.rf_rules.proofs.TallyLemmas.{shown-all}
use Rattle.rf_rules.proofs.RenewalLemmas.{analysis-renewed}
use Rattle.rf_rules.proofs.renewed.renew.Goals as goal

pub returns-clause-value : goal.returns-clause-value
returns-clause-value c = λ old e agrees.
    let show = c.args.show.now in
    let mask = c.args.changed in
    let shown = c.as_slice.result.now in
    let few : length (analysis old) ≤ 10000 = omega (arith, ap (λ (a : Analysis). a.total) e, c.if-before.false) in
    let all : shown ≡ analysis old = c.as_slice.ensures ∙ ap (λ (a : Analysis). a.shown) e ∙ shown-all (analysis old) few in
    let right : renewed mask shown show ≡ analysis show = ap (λ zs. renewed mask zs show) all ∙ analysis-renewed mask old show agrees in
    IfOk-weaker c.renew_from.result _ _ (λ a h. h right) c.renew_from.ensures.value
