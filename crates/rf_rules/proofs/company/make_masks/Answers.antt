use Rattle.std.proofs.Common.{◌≡◌, ◌<◌, ◌≢◌, get_or, set, length, inl, inr, ap, length-set, arith, get_or-set_same, get_or-set_other}
use Rattle.std.proofs.lemmas.Bool.{cases_lt}
use Rattle.rf_rules.proofs.company.make_masks.Goals as goal

pub loop-a-init : goal.loop-a-init
loop-a-init c = record { meets = λ k h. absurd (omega (arith, h)); room = omega (arith, c.carriers-a-end.ensures.few) }

pub loop-a-preserved : goal.loop-a-preserved
loop-a-preserved c =
    let show = c.args.show.now in
    let masks = c.loop-a.masks in
    let a = c.loop-a.a in
    let inside : a < length masks = omega (arith, c.loop-a.invariant.room, ap length c.carriers-a-end.ensures.value, c.loop-a-test.true) in
    record {
      meets = λ k low. elim (cases_lt k a) [
        | inl below ↦
            let other : k ≢ a = omega (arith, below) in
            let e : get_or (set masks a c.meeters.result) k 0 ≡ get_or masks k 0 = get_or-set_other masks a k c.meeters.result 0 other in
            rw e (c.loop-a.invariant.meets k below)
        | inr above ↦
            let same : k ≡ a = omega (arith, above, low) in
            let e : get_or (set masks a c.meeters.result) a 0 ≡ c.meeters.result = get_or-set_same masks a c.meeters.result 0 inside in
            rw (same, e) c.meeters.ensures
      ];
      room = rw length-set c.loop-a.invariant.room;
    }
