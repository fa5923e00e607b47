use Rattle.std.proofs.Common.{FitsSigned, rules, ◌≡◌, ◌∙◌, ℕ, Bool, true, false, T, ℤ, pos, to_z, of_z, w64, length, refl, sym, ap, subst, arith, ◌<ℤ◌, true≢false}
use Rattle.std.specs.Int.Signed.{le_z}
use Rattle.std.proofs.lemmas.Int.{by_lt_z, to_z-of_z}
use Rattle.std.proofs.lemmas.List.{length-map}
use Rattle.rf_problem.specs.Problem.{case_of}
use Rattle.rf_problem.proofs.CaseLaws.{count_is}
use Rattle.rf_props.proofs.LiveLemmas.{known_at, none_from, none_next, none_at_ends}
use Rattle.rf_props.proofs.strike.has_some_within.Goals as goal
use Rattle.rf_log.proofs.CaseLaws.{counts_length}

pub next-requires : goal.next-requires
next-requires c =
    let sets = c.domains.result.now in
    omega
    (arith, ap length c.domains.ensures.sizes, length-map sets length, ap length c.requires.counts, counts_length (case_of c.args.problem.now), count_is c.args.problem.now, c.requires.carrier)

pub bounds-freqs-k : goal.bounds-freqs-k
bounds-freqs-k c =
    known_at (case_of c.args.problem.now) c.args.trail.now c.domains.result.now c.freqs-freqs.result.now c.args.carrier c.in-Some.k c.requires.counts c.domains.ensures.has
    (record { is = c.freqs-freqs.ensures.value; rising = c.freqs-freqs.ensures.rising; small = c.freqs-freqs.ensures.below }) c.in-Some.ensures.here

above_end : (f : ℕ) (hi : ℤ) → le_z (pos f) hi ≡ false → hi <ℤ pos f
above_end f hi out = by_lt_z hi (pos f) (λ above. above) (λ within. absurd (true≢false (sym (yes (le_z (pos f) hi) within.le) ∙ out)))
  where
    yes : (b : Bool) → T b → b ≡ true
    yes true t = refl
    yes false t = absurd t

beyond : (x hi : ℤ) (f : ℕ) → x ≡ pos f → to_z w64 (of_z w64 x) ≡ x → le_z (to_z w64 (of_z w64 x)) hi ≡ false → hi <ℤ pos f
beyond x hi f e told out = above_end f hi (subst (λ (z : ℤ). le_z z hi ≡ false) (told ∙ e) out)

pub returns-in-Some : goal.returns-in-Some
returns-in-Some c = λ out.
    let lo = to_z w64 (of_z w64 c.args.lo) in
    let hi = to_z w64 (of_z w64 c.args.hi) in
    let fits : FitsSigned w64 c.from-in-Some.result = search rules in
    none_at_ends (to_z-of_z w64 c.args.lo c.ranges.lo) (to_z-of_z w64 c.args.hi c.ranges.hi)
    (none_next (case_of c.args.problem.now) c.args.trail.now c.domains.result.now c.freqs-freqs.result.now c.args.carrier c.count_below_near.result c.in-Some.k c.from.result lo hi c.requires.counts c.domains.ensures.has
    (record { is = c.freqs-freqs.ensures.value; rising = c.freqs-freqs.ensures.rising; small = c.freqs-freqs.ensures.below }) c.from.ensures c.count_below_near.ensures c.in-Some.ensures
    (beyond c.from-in-Some.result hi _ c.from-in-Some.ensures (to_z-of_z w64 c.from-in-Some.result fits) out))

pub returns-in-None : goal.returns-in-None
returns-in-None c = λ _.
    let lo = to_z w64 (of_z w64 c.args.lo) in
    let hi = to_z w64 (of_z w64 c.args.hi) in
    none_at_ends (to_z-of_z w64 c.args.lo c.ranges.lo) (to_z-of_z w64 c.args.hi c.ranges.hi)
    (none_from (case_of c.args.problem.now) c.args.trail.now c.domains.result.now c.freqs-freqs.result.now c.args.carrier c.count_below_near.result c.from.result lo hi c.requires.counts c.domains.ensures.has
    (record { is = c.freqs-freqs.ensures.value; rising = c.freqs-freqs.ensures.rising; small = c.freqs-freqs.ensures.below }) c.from.ensures c.count_below_near.ensures c.in-None.ensures)
