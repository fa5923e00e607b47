use Rattle.std.proofs.Common.{◌≡◌, ◌<◌, ◌+◌, ◌-◌, ◌∙◌, ℕ, sym, ap, List, length, reverse, take, arith, Vec, Global, Some}
use Rattle.std.proofs.lemmas.List.{get_or_default}
use Rattle.rf_log.specs.declared.cond.Cond.{Cond}
use Rattle.rf_log.specs.Walk.{turned, right_side}
use Rattle.rf_checker.proofs.WalkLemmas.{turn_at}
use Rattle.rf_checker.proofs.walk.turn.Goals as goal

pub returns-then-index : goal.returns-then-index
returns-then-index c =
    let i = c.loop-left.left - 1 in
    let path = c.loop-left.path.items in
    let x = c.index.result.now in
    let y = c.index_mut.result.now in
    let low : i < length path = omega (arith, c.loop-left.invariant.within, c.loop-left.path.ok) in
    let next : c.loop-left.left ≡ i + 1 = omega arith in
    ap (λ (v : Vec Cond Global). turned (reverse v.items)) (sym c.loop-left.invariant.same)
    ∙ (sym c.loop-left.invariant.value
    ∙ (ap (λ (n : ℕ). turned (reverse (take n path))) next
    ∙ (turn_at path i x (right_side y) low (ap (λ (cond : Cond). cond.inside) (sym c.index.ensures) ∙ c.if-index.true)
    (ap right_side (c.index_mut.ensures.value ∙ get_or_default path i y x low))
    ∙ ap (λ (xs : List Cond). Some (reverse xs)) (sym c.truncate.ensures.items))))
