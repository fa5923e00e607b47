use Rattle.std.proofs.Common.{◌≡◌, ◌<◌, ◌∙◌, List, length, get_or, ap, sym, subst, arith, Some}
use Rattle.rf_log.specs.declared.cond.Cond.{Cond}
use Rattle.rf_log.specs.Hints.{Line}
use Rattle.rf_propagate.specs.Laws.{numbers_of}
use Rattle.rf_props.proofs.TheoryLemmas.{number_at, none_has, one_has}
use Rattle.rf_props.proofs.lines.Lines.find.Goals as goal

pub returns-then-place-lines : goal.returns-then-place-lines
returns-then-place-lines c =
    let lines : c.as_slice-lines.result.now ≡ c.args.self.now = c.as_slice-lines.ensures.value ∙ c.self.view_is in
    none_has c.args.self.now c.args.number c.count_below-place.result c.requires c.count_below-place.ensures (λ low e. absurd (omega (arith, low, ap length lines)))

pub returns-then-line-number : goal.returns-then-line-number
returns-then-line-number c =
    let lines : c.as_slice-lines.result.now ≡ c.args.self.now = c.as_slice-lines.ensures.value ∙ c.self.view_is in
    let place = c.count_below-place.result in
    none_has c.args.self.now c.args.number place c.requires c.count_below-place.ensures (λ low e.
    let number = number_at c.as_slice-lines.result.now place c.index-lines-place.result (omega arith) c.index-lines-place.is in
    c.if-line-number.true (ap (λ (l : Line). l.number) c.line.view_is ∙ (sym number ∙ (ap (λ (ls : List Line). get_or (numbers_of ls) place 0) lines ∙ e))))

pub returns : goal.returns
returns c =
    let lines : c.as_slice-lines.result.now ≡ c.args.self.now = c.as_slice-lines.ensures.value ∙ c.self.view_is in
    let place = c.count_below-place.result in
    let low : place < length c.args.self.now = omega (arith, c.if-place-lines.false, ap length lines) in
    let is = subst (λ (ls : List Line). c.index-lines-place.result ≡ get_or ls place c.index-lines-place.result) lines c.index-lines-place.is in
    one_has c.args.self.now c.args.number place c.index-lines-place.result c.requires low is (sym (ap (λ (l : Line). l.number) c.line.view_is) ∙ c.if-line-number.false)
    ∙ ap (λ (conds : List Cond). Some conds) (sym (ap (λ (l : Line). l.conds) c.line.view_is) ∙ sym c.as_slice.ensures)
