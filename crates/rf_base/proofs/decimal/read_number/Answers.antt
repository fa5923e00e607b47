use Rattle.std.proofs.Common.{◌≡◌, true, rules}
use Rattle.rf_base.specs.Decimal.{is_whole}
use Rattle.rf_base.proofs.DecimalLaws.{whole_parts}
use Rattle.rf_base.proofs.decimal.read_number.Goals as goal

pub bounds-word-0 : goal.bounds-word-0
bounds-word-0 c =
    let h : is_whole c.args.word.now ≡ true = search rules in
    (whole_parts c.args.word.now h).some
