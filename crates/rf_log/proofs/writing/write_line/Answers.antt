use Rattle.rf_log.proofs.TextLemmas.{nogood_in_pieces}
use Rattle.rf_log.proofs.writing.write_line.Goals as goal

pub returns-in_ok-writeln-in-Nogood : goal.returns-in_ok-writeln-in-Nogood
returns-in_ok-writeln-in-Nogood c =
    let conds = rw c.as_slice.ensures at c.in_ok-write_conds-in-Nogood.ensures in
    let hints = rw c.as_slice-in-Nogood.ensures at c.in_ok-write_hints-in-Nogood.ensures in
    rw c.in-Nogood.is (nogood_in_pieces _ _ _ _ _ _ _ _ c.in_ok-write-in-Nogood.ensures.bytes conds
    c.in_ok-write-in-Nogood-2.ensures.bytes hints c.in_ok-writeln-in-Nogood.ensures.bytes)
