use Rattle.std.proofs.Common.{◌≡◌, sym, refl, arith}
use Rattle.std.specs.Int.{bit_at}
use Rattle.std.proofs.lemmas.Nat.Bits.{bit_at_above}
use Rattle.rf_zones.specs.Masks.{has_bit}
use Rattle.rf_rules.proofs.renewed.is_in.Goals as goal

pub returns-then-carrier-ge-WIDTH : goal.returns-then-carrier-ge-WIDTH
unfolding has_bit
returns-then-carrier-ge-WIDTH c =
    let e : bit_at c.args.mask c.args.carrier ≡ 0 = bit_at_above c.args.mask 128 c.args.carrier (omega arith) (omega arith) in
    sym (rw e refl)
