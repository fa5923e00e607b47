use Rattle.std.proofs.Common.{◌≡◌, arith, take, ap, take_all}
use Rattle.std.specs.Str.Parse.{digits_value}
use Rattle.rf_base.proofs.DecimalLaws.{number_step, number_short}
use Rattle.rf_base.proofs.decimal.number.Goals as goal

pub overflow_mul-value : goal.overflow_mul-value
overflow_mul-value c = let s = number_step c.args.digits.now c.loop-digit.digit-index c.requires c.loop-digit-test.true in omega (arith, c.loop-digit.invariant)

pub overflow_sub-digit : goal.overflow_sub-digit
overflow_sub-digit c = let s = number_step c.args.digits.now c.loop-digit.digit-index c.requires c.loop-digit-test.true in s.low

pub overflow_add-value : goal.overflow_add-value
overflow_add-value c = let s = number_step c.args.digits.now c.loop-digit.digit-index c.requires c.loop-digit-test.true in omega (arith, c.loop-digit.invariant)

pub loop-digit-preserved : goal.loop-digit-preserved
loop-digit-preserved c = let s = number_step c.args.digits.now c.loop-digit.digit-index c.requires c.loop-digit-test.true in omega (arith, c.loop-digit.invariant, s.value)

pub returns-clause-within : goal.returns-clause-within
returns-clause-within c =
    let short = number_short c.args.digits.now c.requires in
    let all : digits_value 10 (take c.loop-digit.digit-index c.args.digits.now) ≡ digits_value 10 c.args.digits.now =
    ap (digits_value 10) (take_all c.loop-digit.digit-index c.args.digits.now (omega arith)) in
    omega (arith, c.loop-digit.invariant)
