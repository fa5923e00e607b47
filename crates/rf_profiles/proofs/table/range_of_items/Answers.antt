use Rattle.std.proofs.Common.{◌≢◌, sym, length, rules}
use Rattle.rf_profiles.proofs.FileLemmas.{not_three}
use Rattle.rf_profiles.proofs.table.range_of_items.Goals as goal

pub returns-then-len-ne3 : goal.returns-then-len-ne3
returns-then-len-ne3 c =
    let other : length c.args.array.now.items ≢ 3 = search rules in
    sym (not_three c.args.array.now.items other)
