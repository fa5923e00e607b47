use Rattle.std.proofs.Common.{◌≡◌, ◌+◌, ◌-◌, ◌/◌, ◌<◌, ◌≤◌, ◌∙◌, List, ℕ, length, get_or, ap, subst, arith}
use Rattle.std.proofs.lemmas.List.{length-map}
use Rattle.rf_log.specs.Hints.{Line}
use Rattle.rf_propagate.specs.Laws.{numbers_of}
use Rattle.rf_props.proofs.RangeLemmas.{between_up, between_down}
use Rattle.rf_props.proofs.TheoryLemmas.{number_at}
use Rattle.rf_props.proofs.lines.Lines.count_below.Goals as goal

pub loop-from-preserved-then-line-number : goal.loop-from-preserved-then-line-number
loop-from-preserved-then-line-number c =
    let middle : ℕ = c.loop-from.from + (c.loop-from.upto - c.loop-from.from) / 2 in
    let lines : c.as_slice-lines.result.now ≡ c.args.self.now = c.as_slice-lines.ensures.value ∙ c.self.view_is in
    let low : middle < length c.as_slice-lines.result.now =
    omega (arith, c.loop-from.invariant.few, length-map c.args.self.now (λ (l : Line). l.number), ap length lines) in
    let number : get_or (numbers_of c.as_slice-lines.result.now) middle 0 ≡ c.index-lines-middle.result.number =
    number_at c.as_slice-lines.result.now middle c.index-lines-middle.result low c.index-lines-middle.is in
    let less : c.index-lines-middle.result.number < c.args.number = subst (λ (l : Line). l.number < c.args.number) c.line.view_is c.if-line-number.true in
    between_up (numbers_of c.args.self.now) c.args.number c.loop-from.from c.loop-from.upto middle c.requires c.loop-from.invariant (omega arith) (omega arith)
    (subst (λ (ls : List Line). get_or (numbers_of ls) middle 0 < c.args.number) lines (omega (arith, number, less)))

pub loop-from-preserved : goal.loop-from-preserved
loop-from-preserved c =
    let middle : ℕ = c.loop-from.from + (c.loop-from.upto - c.loop-from.from) / 2 in
    let lines : c.as_slice-lines.result.now ≡ c.args.self.now = c.as_slice-lines.ensures.value ∙ c.self.view_is in
    let low : middle < length c.as_slice-lines.result.now =
    omega (arith, c.loop-from.invariant.few, length-map c.args.self.now (λ (l : Line). l.number), ap length lines) in
    let number : get_or (numbers_of c.as_slice-lines.result.now) middle 0 ≡ c.index-lines-middle.result.number =
    number_at c.as_slice-lines.result.now middle c.index-lines-middle.result low c.index-lines-middle.is in
    let more : c.args.number ≤ c.index-lines-middle.result.number = subst (λ (l : Line). c.args.number ≤ l.number) c.line.view_is c.if-line-number.false in
    between_down (numbers_of c.args.self.now) c.args.number c.loop-from.from c.loop-from.upto middle c.requires c.loop-from.invariant (omega arith) (omega arith)
    (subst (λ (ls : List Line). c.args.number ≤ get_or (numbers_of ls) middle 0) lines (omega (arith, number, more)))
