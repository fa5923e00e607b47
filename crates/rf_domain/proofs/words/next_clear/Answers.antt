use Rattle.std.proofs.Common.{◌/◌, ◌%◌, ◌^◌, ◌<◌, inl, inr, get_or, arith, w64, refl}
use Rattle.std.specs.Int.{bit_not, trailing_zeros}
use Rattle.std.proofs.lemmas.Bool.{cases_lt}
use Rattle.rf_domain.proofs.Bits.{word_set, word_clear_found, FoundClear}
use Rattle.rf_domain.proofs.words.next_clear.Goals as goal

pub returns-then-rest-ne0 : goal.returns-then-rest-ne0
returns-then-rest-ne0 c =
    let words = c.args.words.now in
    let k = c.loop-k.k in
    let fits : get_or words (k / 64) 0 < 2 ^ 64 = let fit = c.type_inv.words (k / 64) in omega arith in
    let at : FoundClear words k (trailing_zeros w64 (bit_not w64 (get_or words (k / 64) 0) / 2 ^ (k % 64))) = word_clear_found words k _ refl fits c.if-rest-ne0.true in
    let within = at.within in
    record {
      later = omega (arith, c.loop-k.invariant.0);
      here = at.here;
      least = λ j later below. elim (cases_lt j k) [
        | inl early ↦ c.loop-k.invariant.1 j later early
        | inr late ↦ at.before j late below
      ];
    }

pub loop-k-preserved : goal.loop-k-preserved
loop-k-preserved c =
    let fits : get_or c.args.words.now (c.loop-k.k / 64) 0 < 2 ^ 64 = let fit = c.type_inv.words (c.loop-k.k / 64) in omega arith in (
      omega (arith, c.loop-k.invariant.0),
      λ j later below. elim (cases_lt j c.loop-k.k) [
        | inl early ↦ c.loop-k.invariant.1 j later early
        | inr late ↦ word_set c.args.words.now c.loop-k.k j fits c.if-rest-ne0.false late below
      ],
    )

pub returns : goal.returns
returns c = λ j later low. c.loop-k.invariant.1 j later (omega arith)
