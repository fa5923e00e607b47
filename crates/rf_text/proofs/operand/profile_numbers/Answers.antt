use Rattle.std.proofs.Common.{◌≡◌, ◌∙◌, None, Some, arith, sym}
use Rattle.rf_base.specs.Decimal.{number_of}
use Rattle.rf_text.specs.Operands.{at_most_one, fewest_numbers}
use Rattle.rf_text.proofs.OperandLemmas.{missing, more, no_numbers, numbers_read, whole, wrong}
use Rattle.rf_text.proofs.operand.profile_numbers.Goals as goal

pub returns-in_err-next : goal.returns-in_err-next
returns-in_err-next c =
    c.from_residual.ensures ∙ no_numbers c.args.words (missing number_of (at_most_one number_of) _ _ _ _ _ c.loop-place.invariant c.loop-place-test.true c.in_err-next.ensures)

pub returns-in_err-numbers : goal.returns-in_err-numbers
returns-in_err-numbers c =
    let none : number_of c.in_ok-next.field-0.now ≡ None = sym c.read.ensures ∙ c.in_err-numbers.was in
    c.from_residual-in_err-numbers.ensures ∙ no_numbers c.args.words
    (wrong number_of (at_most_one number_of) _ _ _ _ _ c.loop-place.invariant c.in_ok-next.field-0.now _ c.loop-place-test.true c.in_ok-next.ensures none)

pub loop-place-preserved : goal.loop-place-preserved
loop-place-preserved c =
    let read : number_of c.in_ok-next.field-0.now ≡ Some c.in_ok-numbers.field-0 = sym c.read.ensures ∙ c.in_ok-numbers.was in
    more number_of (at_most_one number_of) _ _ _ _ _ c.loop-place.invariant c.in_ok-numbers.field-0 c.in_ok-next.field-0.now _ c.loop-place-test.true c.in_ok-next.ensures read

pub returns-in_err-last : goal.returns-in_err-last
returns-in_err-last c =
    let all : c.loop-place.place ≡ fewest_numbers = omega (arith, c.loop-place-test.false, c.loop-place.auto.place-end) in
    let none : at_most_one number_of c.loop-place.words ≡ None = sym c.at_most_one.ensures ∙ c.in_err-last.was in
    c.from_residual-in_err-last.ensures ∙ no_numbers c.args.words (whole number_of (at_most_one number_of) _ _ _ _ _ c.loop-place.invariant None (sym all) none)

pub returns : goal.returns
returns c =
    let all : c.loop-place.place ≡ fewest_numbers = omega (arith, c.loop-place-test.false, c.loop-place.auto.place-end) in
    let some : at_most_one number_of c.loop-place.words ≡ Some c.in_ok-last.last = sym c.at_most_one.ensures ∙ c.in_ok-last.was in
    let last = c.unwrap_or.ensures in
    rw last (numbers_read _ c.args.words _ _ c.in_ok-last.last c.loop-place.invariant all some)
