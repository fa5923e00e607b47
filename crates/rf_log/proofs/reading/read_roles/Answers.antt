use Rattle.std.proofs.Common.{◌≡◌, ◌∙◌, ◌+◌, ◌-◌, suc, arith, sym, length-set}
use Rattle.rf_log.proofs.ReadingLemmas.{roles-more}
use Rattle.rf_log.proofs.reading.read_roles.Goals as goal

pub loop-place-preserved : goal.loop-place-preserved
loop-place-preserved c =
    let one : c.args.count - c.loop-place.place ≡ suc (c.args.count - (c.loop-place.place + 1)) = omega arith in
    let next : c.loop-place.place + 1 ≡ suc c.loop-place.place = omega arith in
    record {
      is = rw (c.in_ok-roles.ensures.number, c.in_ok-roles.ensures.names) (c.loop-place.invariant.is ∙ roles-more _ _ _ _ _ _ _ _ _ one next (sym c.in-Some.ensures));
      full = simp length-set c.loop-place.invariant.full;
    }
