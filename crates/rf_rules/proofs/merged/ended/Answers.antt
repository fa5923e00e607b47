use Rattle.std.proofs.Common.{◌≡◌, ◌-◌, ◌++◌, ◌∷◌, [], length, take, ap, ◌∙◌, arith}
use Rattle.std.proofs.lemmas.List.{take_more_set}
use Rattle.rf_terms.proofs.KindLaws.{four_roles}
use Rattle.rf_rules.proofs.merged.ended.Goals as goal

pub returns-clause-value : goal.returns-clause-value
returns-clause-value c =
    let four : length c.widened-all.result ≡ 4 = omega arith in
    let few = four_roles c.args.kind in
    take_more_set c.widened-all.result (c.roles-last.result - 1) c.args.victim (omega (arith, four, few, c.roles-last.ensures.value))
    ∙ ap (λ zs. zs ++ c.args.victim ∷ []) (c.widened-all.ensures (c.roles-last.result - 1) (omega (arith, few, c.roles-last.ensures.value)) ∙
    ap (λ k. take (k - 1) c.args.sources) c.roles-last.ensures.value)
