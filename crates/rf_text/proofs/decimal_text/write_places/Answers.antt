use Rattle.std.proofs.Common.{arith}
use Rattle.rf_text.proofs.PlaceLemmas.{place_written, places_ended, places_full, ten_pow}
use Rattle.rf_text.proofs.decimal_text.write_places.Goals as goal

pub returns-then-rest-eq0 : goal.returns-then-rest-eq0
returns-then-rest-eq0 c = places_ended _ _ _ _ _ c.loop-place.invariant c.if-rest-eq0.true

pub nonzero_div-digit : goal.nonzero_div-digit
nonzero_div-digit c = rw c.pow-unit.ensures (ten_pow _)

pub nonzero_rem-rest : goal.nonzero_rem-rest
nonzero_rem-rest c = rw c.pow-unit.ensures (ten_pow _)

pub loop-place-preserved : goal.loop-place-preserved
loop-place-preserved c =
    let unit = c.pow-unit.ensures in
    let wrote = c.in_ok-write.ensures.bytes in
    rw unit (place_written _ _ _ _ _ _ c.loop-place.invariant c.loop-place-test.true c.if-rest-eq0.false (rw unit at wrote))

pub returns : goal.returns
returns c = places_full _ _ _ _ _ c.loop-place.invariant (omega (arith, c.loop-place.auto.place-end, c.loop-place-test.false))
