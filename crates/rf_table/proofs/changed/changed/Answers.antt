use Rattle.std.proofs.Common.{length, ap, arith, inl, inr}
use Rattle.std.proofs.lemmas.Bool.{cases_lt}
use Rattle.rf_table.proofs.Agreement.{past-both, unchanged-agrees}
use Rattle.rf_table.proofs.changed.changed.Goals as goal

pub returns : goal.returns
returns c =
    unchanged-agrees c.loop-c.mask c.args.old.now c.args.new.now
    (record {
      zones = c.requires;
      same = λ k out. elim (cases_lt k c.loop-c.c) [
        | inl p ↦ c.loop-c.invariant k p out
        | inr p ↦ past-both c.args.old.now c.args.new.now k (omega (arith, p, ap length c.carriers.ensures.value, c.max-c-end.ensures))
            (omega (arith, p, ap length c.carriers-2.ensures.value, c.max-c-end.ensures))
      ];
    })
