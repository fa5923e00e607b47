use Rattle.std.proofs.Common.{ap, arith, ◌∙◌}
use Rattle.rf_rules.specs.Products.{values}
use Rattle.rf_rules.specs.Tallies.{shown_of}
use Rattle.rf_rules.proofs.FrontLemmas.{shown-front}
use Rattle.rf_rules.proofs.front.front.Goals as goal

pub returns-then-len-ge-MAX_SHOWN : goal.returns-then-len-ge-MAX_SHOWN
returns-then-len-ge-MAX_SHOWN c = λ all e.
    let lo = c.args.lo in
    let hi = c.args.hi in
    let end = c.in_ok-end.end in
    let some = c.in_ok-some.some in
    shown-front lo end hi all some.items c.in_ok-end.ensures (c.in_ok-some.ensures lo hi all c.in_ok-end.ensures e) (omega (arith, c.len.ensures, some.ok.0, c.if-len-ge-MAX_SHOWN.true))

pub returns : goal.returns
returns c = λ all e.
    let lo = c.args.lo in
    let hi = c.args.hi in
    ap shown_of (c.in_ok-all.ensures lo hi all (omega (arith, c.get.ensures.value)) e ∙ ap (λ n. values lo n all) c.get.ensures.value)
