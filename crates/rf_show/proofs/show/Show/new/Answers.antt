use Rattle.std.proofs.Common.{arith}
use Rattle.rf_show.proofs.KeptLaws.{first_kept}
use Rattle.rf_show.proofs.show.Show.new.Goals as goal

pub invariant_of-result : goal.invariant_of-result
invariant_of-result c =
    let profiles = c.in_ok-with_capacity.ensures in
    let carriers = c.in_ok-with_capacity-2.ensures in
    let bans = c.in_ok-with_capacity-3.ensures in
    let scans = c.in_ok-with_capacity-4.ensures in
    rw (c.new.ensures, profiles.items, carriers.items, bans.items, scans.items)
    (first_kept, omega arith, omega arith, omega (arith, profiles.capacity), omega (arith, carriers.capacity), omega (arith, bans.capacity), omega (arith, scans.capacity))
