use Rattle.std.proofs.Common.{◌≡◌, ◌-◌, pos, ◌*ℤ◌, get_or, unsigned_abs, true, ap, sym, ◌∙◌, arith, to_z, of_z, w64, inl, inr}
use Rattle.std.proofs.lemmas.Bool.{cases_lt, true≢false}
use Rattle.std.proofs.lemmas.Int.{to_z-of_z}
use Rattle.rf_zones.specs.Masks.{has_bit}
use Rattle.rf_terms.specs.Kinds.{coefficients_of, roles_of}
use Rattle.rf_rules.specs.Instances.{khz_in}
use Rattle.rf_rules.specs.Paired.{Covers, pair_value}
use Rattle.rf_rules.specs.Searches.{lane_of}
use Rattle.rf_rules.specs.declared.lane.Lane.{Lane}
use Rattle.rf_rules.proofs.ReadyLemmas.{ready-lane, ready-lanes, ready-term}
use Rattle.rf_rules.proofs.pairings.Pairings.add_all.Goals as goal
use Rattle.rf_rules.proofs.pairings.Pairings.add_all.Goals.{After-sum}
use Rattle.rf_terms.proofs.FormLaws.{told, abs-add}

pub bounds-search-last : goal.bounds-search-last
bounds-search-last c = omega (arith, ready-lanes c.args.search.now c.requires.ready, c.loop-last-test.true)

abbrev no-lane : Lane
no-lane = record { term = pos 0; needs = 0 }

pub sum-requires-clause-b : goal.sum-requires-clause-b
sum-requires-clause-b c =
    let s = c.args.search.now in
    let e = ap (λ (l : Lane). l.term) (ready-lane s c.loop-last.last no-lane c.requires.ready c.loop-last-test.true) in
    let t = told (get_or s.lanes.now c.loop-last.last no-lane).term (omega (arith, ap unsigned_abs e, ready-term s c.loop-last.last c.requires.ready)) in
    omega (arith, ap unsigned_abs t, ap unsigned_abs e, ready-term s c.loop-last.last c.requires.ready)

-- what the two carriers add
value : (c : After-sum) → to_z w64 (of_z w64 c.sum.result) ≡ pair_value c.args.search.now c.args.first c.loop-last.last
value c =
    let s = c.args.search.now in
    let e = ap (λ (l : Lane). l.term) (ready-lane s c.loop-last.last no-lane c.requires.ready c.loop-last-test.true) in
    let term : to_z w64 (of_z w64 (get_or s.lanes.now c.loop-last.last no-lane).term) ≡ (lane_of s.show.now s.ats.now s.kind c.loop-last.last).term =
    told (get_or s.lanes.now c.loop-last.last no-lane).term (omega (arith, ap unsigned_abs e, ready-term s c.loop-last.last c.requires.ready)) ∙ e in
    let own : to_z w64 (of_z w64 c.second_term-own.result) ≡ get_or (coefficients_of s.kind) (roles_of s.kind - 2) (pos 0) *ℤ pos (khz_in s.ats.now c.args.first) =
    to_z-of_z w64 c.second_term-own.result (record { sfits = c.second_term-own.type_inv }) ∙ c.second_term-own.ensures.value in
    to_z-of_z w64 c.sum.result (record { sfits = c.sum.type_inv }) ∙ rw (own, term) at c.sum.ensures

pub add-requires-clause-small : goal.add-requires-clause-small
add-requires-clause-small c =
    let s = c.args.search.now in
    let m = (goal.at.add-requires-clause-small c).After-sum in
    let own = get_or (coefficients_of s.kind) (roles_of s.kind - 2) (pos 0) *ℤ pos (khz_in s.ats.now c.args.first) in
    omega (
      arith,
      ap unsigned_abs (value m),
      abs-add own (lane_of s.show.now s.ats.now s.kind c.loop-last.last).term,
      ready-term s c.loop-last.last c.requires.ready,
      ap unsigned_abs c.second_term-own.ensures.value,
      c.second_term-own.ensures.bound,
    )

pub loop-last-preserved : goal.loop-last-preserved
loop-last-preserved c =
    let s = c.args.search.now in
    let m = (goal.at.loop-last-preserved c).After-sum in
    let now : Covers c.add.new.self c.args.first (pair_value s c.args.first c.loop-last.last) = rw (value m) at c.add.ensures.covers in
    record {
      form = c.add.ensures.form;
      width = c.add.ensures.width ∙ c.loop-last.invariant.width;
      covers = λ d h some. elim (cases_lt d c.loop-last.last) [
        | inl p ↦ c.add.ensures.keeps c.args.first (pair_value s c.args.first d) (c.loop-last.invariant.covers d p some)
        | inr p ↦ let e : d ≡ c.loop-last.last = omega (arith, p, h) in rw e now
      ];
      keeps = λ other value h. c.add.ensures.keeps other value (c.loop-last.invariant.keeps other value h);
    }

pub loop-last-preserved-then-not-has : goal.loop-last-preserved-then-not-has
loop-last-preserved-then-not-has c =
    record {
      form = c.loop-last.invariant.form;
      width = c.loop-last.invariant.width;
      covers = λ d h some. elim (cases_lt d c.loop-last.last) [
        | inl p ↦ c.loop-last.invariant.covers d p some
        | inr p ↦ let e : d ≡ c.loop-last.last = omega (arith, p, h) in
            let there : has_bit c.args.lasts c.loop-last.last ≡ true = rw e at some in
            absurd (true≢false (sym there ∙ sym c.has.ensures ∙ c.if-not-has.true))
      ];
      keeps = c.loop-last.invariant.keeps;
    }
