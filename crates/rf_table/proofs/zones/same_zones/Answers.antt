use Rattle.std.proofs.Common.{◌≡◌, arith, inl, inr}
use Rattle.std.proofs.lemmas.Bool.{cases_lt}
use Rattle.std.proofs.lemmas.Option.{slice_get_within}
use Rattle.rf_zones.specs.ZoneNames.{main_zone}
use Rattle.rf_table.proofs.zones.same_zones.Goals as goal

pub loop-z-preserved : goal.loop-z-preserved
loop-z-preserved c = λ k h. elim (cases_lt k c.loop-z.z) [
  | inl p ↦ c.loop-z.invariant k p
  | inr p ↦ let e : k ≡ c.loop-z.z = omega (arith, p, h) in rw e c.if-not-same_zone.ensures
]

pub returns : goal.returns
returns c = record {
  some = slice_get_within c.args.old.now.names 0 main_zone c.count.ensures.form.first;
  count = omega (arith, c.count.ensures.value, c.count-2.ensures.value, c.if-count.false);
  each = λ k h. c.loop-z.invariant k (omega (arith, h, c.count-z-end.ensures.value, c.loop-z-test.false));
}
