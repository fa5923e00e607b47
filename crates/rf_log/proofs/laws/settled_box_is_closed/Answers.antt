use Rattle.rf_log.specs.Relations.{members, IsWithin}
use Rattle.rf_log.specs.Closure.{Closure}
use Rattle.rf_log.proofs.ClosureLaws.{within-round}
use Rattle.rf_log.proofs.laws.settled_box_is_closed.Goals as goal

pub returns : goal.returns
returns c = λ case path has living settled start.
    let within : IsWithin (members has) (Closure case path) = λ x k here n. within-round case path (members has) living settled start n x k here in
    (within, λ x known. let some = living x known in (some.0, within x some.0 some.1))
