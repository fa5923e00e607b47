use Rattle.std.proofs.Common.{◌/◌, ◌%◌, ◌^◌, ◌<◌, inl, inr, get_or, arith, w64, refl}
use Rattle.std.specs.Int.{trailing_zeros}
use Rattle.std.proofs.lemmas.Bool.{cases_lt}
use Rattle.rf_domain.proofs.Bits.{word_clear, word_found, Found, past_words}
use Rattle.rf_domain.proofs.words.next_bit.Goals as goal

pub returns-then-rest-ne0 : goal.returns-then-rest-ne0
returns-then-rest-ne0 c =
    let words = c.args.words.now in
    let k = c.loop-k.k in
    let fits : get_or words (k / 64) 0 < 2 ^ 64 = let fit = c.type_inv.words (k / 64) in omega arith in
    let at : Found words k (trailing_zeros w64 (get_or words (k / 64) 0 / 2 ^ (k % 64))) = word_found words k _ refl fits c.if-rest-ne0.true in
    let within = at.within in
    record {
      later = omega (arith, c.loop-k.invariant.0);
      known = omega arith;
      here = at.here;
      least = λ j later below. elim (cases_lt j k) [
        | inl early ↦ c.loop-k.invariant.1 j later early
        | inr late ↦ at.before j late below
      ];
    }

pub loop-k-preserved : goal.loop-k-preserved
loop-k-preserved c = (
  omega (arith, c.loop-k.invariant.0),
  λ j later below. elim (cases_lt j c.loop-k.k) [
    | inl early ↦ c.loop-k.invariant.1 j later early
    | inr late ↦ word_clear c.args.words.now c.loop-k.k j c.if-rest-ne0.false late below
  ],
)

pub returns : goal.returns
returns c = λ j later. elim (cases_lt j c.loop-k.k) [
  | inl early ↦ c.loop-k.invariant.1 j later early
  | inr late ↦ past_words c.args.words.now j (omega arith)
]
