use Rattle.std.proofs.Common.{◌≡◌, true, ap, sym, ◌∙◌, arith, inl, inr, true≢false, ◌&&◌, ◌||◌}
use Rattle.std.proofs.lemmas.Bool.{cases_lt}
use Rattle.rf_zones.specs.Masks.{has_bit}
use Rattle.rf_rules.specs.Paired.{pair_value, stands}
use Rattle.rf_rules.proofs.ReadyLemmas.{ready-wide}
use Rattle.rf_rules.proofs.pairings.Pairings.touching.Goals as goal

pub loop-first-init : goal.loop-first-init
loop-first-init c =
    let s = c.args.search.now in
    record {
      form = record { wide = omega (arith, c.from.ensures, c.widest.ensures.some); some = omega (arith, c.in_ok-vec.ensures.len, c.room.ensures) };
      wide = ready-wide s c.widest.result _ c.requires.ready c.widest.ensures.wide (omega (arith, c.from.ensures));
      pairs = λ k d h. absurd (omega (arith, h));
    }

pub loop-first-preserved : goal.loop-first-preserved
loop-first-preserved c =
    let s = c.args.search.now in
    let i = c.loop-first.first in
    record {
      form = c.add_all.ensures.form;
      wide = λ k h. omega (arith, c.loop-first.invariant.wide k h, c.add_all.ensures.width);
      pairs = λ k d h q some at there. elim (cases_lt k i) [
        | inl p ↦ c.add_all.ensures.keeps k (pair_value s k d) (c.loop-first.invariant.pairs k d p q some at there)
        | inr p ↦
            let e : k ≡ i = omega (arith, p, h) in
            let one : (has_bit c.args.mask i || has_bit c.args.mask d) ≡ true = rw e at some in
            let mate : has_bit c.partners.result d ≡ true =
            c.partners.ensures d ∙ ap (λ b. b && (has_bit c.args.mask i || has_bit c.args.mask d)) (c.standing-standing.ensures d q ∙ there) ∙ one in
            rw e (c.add_all.ensures.covers d q mate)
      ];
    }

pub loop-first-preserved-then-not-has : goal.loop-first-preserved-then-not-has
loop-first-preserved-then-not-has c =
    let s = c.args.search.now in
    let i = c.loop-first.first in
    record {
      form = c.loop-first.invariant.form;
      wide = c.loop-first.invariant.wide;
      pairs = λ k d h q some at there. elim (cases_lt k i) [
        | inl p ↦ c.loop-first.invariant.pairs k d p q some at there
        | inr p ↦
            let e : k ≡ i = omega (arith, p, h) in
            let placed : stands s i ≡ true = rw e at at in
            absurd (true≢false (sym placed ∙ sym (c.standing-standing.ensures i c.loop-first-test.true) ∙ sym c.has.ensures ∙ c.if-not-has.true))
      ];
    }
