use Rattle.std.proofs.Common.{◌≡◌, ◌∙◌, ◌<◌, ℕ, List, Bool, true, false, [], length, sym, ap, subst, arith, inl, inr, None, Some, true≢false}
use Rattle.std.proofs.lemmas.Bool.{cases_lt}
use Rattle.std.proofs.lemmas.List.{get_or_default, get_or_past}
use Rattle.std.proofs.lemmas.Option.{none-some}
use Rattle.rf_show.specs.Case.{case_of}
use Rattle.rf_audit.specs.Left.{has, in_sets, fixed_at}
use Rattle.rf_audit.specs.Looks.{HasTwo}
use Rattle.rf_audit.proofs.Sets.{one-more}
use Rattle.rf_audit.proofs.closing.survey.Goals as goal
use Rattle.rf_audit.proofs.closing.survey.Goals.{in-Some+else-not-has, in-None+in-Some-first+in-Some-first-2}
use Rattle.rf_log.proofs.CaseLaws.{counts_length}

pub returns-then-not-has : goal.returns-then-not-has
returns-then-not-has c = λ held living.
    let d = c.loop-c.c in
    let sets = c.args.left.now.sets.items in
    let low : d < length sets = omega (arith, c.loop-c-test.true, c.len-c-end.ensures) in
    let some = living d (omega (arith, counts_length (case_of c.args.show.now), c.requires.sized.full, low)) in
    let at = c.index-marks.ensures ∙ get_or_default sets d c.index-marks.result.now [] low in
    let fixed : fixed_at c.args.left.now.fixed.items d ≡ Some c.in-Some.k =
    sym (c.index.ensures ∙ get_or_default c.args.left.now.fixed.items d c.index.result.now None (omega (arith, c.requires.fixed.full, c.requires.sized.full, low))) ∙ c.in-Some.is in
    let is : some.0 ≡ c.in-Some.k = held d c.in-Some.k some.0 fixed some.1 in
    true≢false (sym (subst (λ (k : ℕ). in_sets sets d k ≡ true) is some.1) ∙ (ap (λ m. has m c.in-Some.k) (sym at) ∙ (sym c.has.ensures ∙ c.if-not-has.true)))

pub returns-in-None-first : goal.returns-in-None-first
returns-in-None-first c = λ held living.
    let d = c.loop-c.c in
    let sets = c.args.left.now.sets.items in
    let low : d < length sets = omega (arith, c.loop-c-test.true, c.len-c-end.ensures) in
    let some = living d (omega (arith, counts_length (case_of c.args.show.now), c.requires.sized.full, low)) in
    let marks = c.index-marks.result.now in
    let at = c.index-marks.ensures ∙ get_or_default sets d marks [] low in
    let here : has marks some.0 ≡ true = ap (λ m. has m some.0) at ∙ some.1 in
    elim (cases_lt some.0 c.len.result) [
      | inl below ↦ true≢false (sym here ∙ c.in-None-first.ensures some.0 (omega arith) below)
      | inr past ↦ true≢false (sym here ∙ get_or_past marks some.0 false (let e = c.len.ensures in omega (arith, e, past)))
    ]

pub loop-c-preserved : goal.loop-c-preserved
loop-c-preserved c =
    let d = c.loop-c.c in
    let sets = c.args.left.now.sets.items in
    let fixed = c.args.left.now.fixed.items in
    let low : d < length sets = omega (arith, c.loop-c-test.true, c.len-c-end.ensures) in
    let at = c.index-marks.ensures ∙ get_or_default sets d c.index-marks.result.now [] low in
    let fixed_is = sym (c.index.ensures ∙ get_or_default fixed d c.index.result.now None (omega (arith, c.requires.fixed.full, c.requires.sized.full, low))) in
    elim c.match-index.branch [
      | in-Some+else-not-has w ↦
          let here : in_sets sets d w.in-Some.k ≡ true = ap (λ (m : List Bool). has m w.in-Some.k) (sym at) ∙ (sym w.has.ensures ∙ w.if-not-has.false) in
          record {
            living = one-more (λ x. (k : ℕ) × (in_sets sets x k ≡ true)) d c.loop-c.invariant.living (w.in-Some.k, here);
            two = one-more (λ x. fixed_at fixed x ≡ None → HasTwo (in_sets sets) x) d c.loop-c.invariant.two
                (λ none. absurd (none-some w.in-Some.k (sym none ∙ (fixed_is ∙ w.in-Some.is))));
          }
      | in-None+in-Some-first+in-Some-first-2 w ↦
          let here : in_sets sets d w.in-Some-first.at ≡ true = ap (λ (m : List Bool). has m w.in-Some-first.at) (sym at) ∙ w.in-Some-first.ensures.here in
          record {
            living = one-more (λ x. (k : ℕ) × (in_sets sets x k ≡ true)) d c.loop-c.invariant.living (w.in-Some-first.at, here);
            two = one-more (λ x. fixed_at fixed x ≡ None → HasTwo (in_sets sets) x) d c.loop-c.invariant.two (λ _. record {
              one = w.in-Some-first.at;
              other = w.in-Some-first-2.field-0;
              here = here;
              there = ap (λ (m : List Bool). has m w.in-Some-first-2.field-0) (sym at) ∙ w.in-Some-first-2.ensures.here;
              differ = λ same. omega (arith, w.in-Some-first-2.ensures.above, same);
            });
          }
    ]

pub returns : goal.returns
returns c = (
  λ d low. c.loop-c.invariant.living d (omega (arith, counts_length (case_of c.args.show.now), c.requires.sized.full, c.loop-c-test.false, low, c.len-c-end.ensures)),
  λ d low is. c.loop-c.invariant.two d (omega (arith, c.requires.sized.full, c.loop-c-test.false, low, c.len-c-end.ensures)) is,
)
