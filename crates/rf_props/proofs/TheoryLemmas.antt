-- A theory is told by its ordinary fields.
use Rattle.std.proofs.Common.{◌≡◌, ◌∙◌, ℕ, suc, ◌+◌, ◌<◌, ◌==◌, List, [], ◌∷◌, Bool, length, get_or, refl, sym, ap, subst, arith, inl, inr}
use Rattle.std.specs.Prelude.{Result, Ok, Err, OnErr, Some, None, Contains, if◌then◌else◌}
use Rattle.std.proofs.lemmas.Bool.{cases_Bool, cases_lt, cases_eq}
use Rattle.std.proofs.lemmas.List.{get_or-map, get_or_default, length-map}
use Rattle.std.specs.List.Sorted.{IsStrictlyIncreasing}
use Rattle.std.proofs.Props.{props}
use Rattle.rf_log.specs.Case.{counts_of, Case}
use Rattle.rf_log.specs.declared.cond.Cond.{Cond}
use Rattle.rf_log.specs.Hints.{Line, line_at}
use Rattle.rf_problem.specs.Problem.{case_of}
use Rattle.rf_propagate.specs.Laws.{AreInRange, AreKnown, numbers_of}
use Rattle.rf_propagate.specs.Openings.{AllFit}
use Rattle.rf_propagate.proofs.LineLaws.{found_at, not_found}
use Rattle.rf_props.specs.Ranges.{AreBelow}
use Rattle.rf_props.proofs.RangeLemmas.{rising_le}
use Rattle.rf_props.specs.declared.theory.ProblemTheory.{ProblemTheory}

same_facts : (t : ProblemTheory) (a : t.counts ≡ counts_of (case_of t.problem.now)) (b : IsStrictlyIncreasing (numbers_of t.lines)) (c : AreKnown (case_of t.problem.now) t.lines)
    → ◌≡◌ {A = ProblemTheory} (record { problem = t.problem; counts = t.counts; lines = t.lines; counted = a; rising = b; in_range = c }) t
same_facts t a b c =
    let pa : IsProp (t.counts ≡ counts_of (case_of t.problem.now)) = hlevel props in
    let pb : IsProp (IsStrictlyIncreasing (numbers_of t.lines)) = hlevel props in
    let pc : IsProp (AreKnown (case_of t.problem.now) t.lines) = hlevel props in
    ap {A = t.counts ≡ counts_of (case_of t.problem.now)} {B = ProblemTheory}
    (λ x. record { problem = t.problem; counts = t.counts; lines = t.lines; counted = x; rising = b; in_range = c }) (pa a t.counted)
    ∙ ap {A = IsStrictlyIncreasing (numbers_of t.lines)} {B = ProblemTheory}
    (λ x. record { problem = t.problem; counts = t.counts; lines = t.lines; counted = t.counted; rising = x; in_range = c }) (pb b t.rising)
    ∙ ap {A = AreKnown (case_of t.problem.now) t.lines} {B = ProblemTheory}
    (λ x. record { problem = t.problem; counts = t.counts; lines = t.lines; counted = t.counted; rising = t.rising; in_range = x }) (pc c t.in_range)

pub same_theory : (t : ProblemTheory) (ls : List Line) → ls ≡ t.lines
    → (a : t.counts ≡ counts_of (case_of t.problem.now)) (b : IsStrictlyIncreasing (numbers_of ls)) (c : AreKnown (case_of t.problem.now) ls)
    → ◌≡◌ {A = ProblemTheory} (record { problem = t.problem; counts = t.counts; lines = ls; counted = a; rising = b; in_range = c }) t
same_theory t ls same a =
    subst (λ (xs : List Line). (b : IsStrictlyIncreasing (numbers_of xs)) (c : AreKnown (case_of t.problem.now) xs)
    → ◌≡◌ {A = ProblemTheory} (record { problem = t.problem; counts = t.counts; lines = xs; counted = a; rising = b; in_range = c }) t) (sym same) (same_facts t a)

-- a list of lines with one more, or the same
pub grown_err : {A E : Type 0} (t : ProblemTheory) (ls : List Line) (r : Result A E) → OnErr r (ls ≡ t.lines)
    → (a : t.counts ≡ counts_of (case_of t.problem.now)) (b : IsStrictlyIncreasing (numbers_of ls)) (c : AreKnown (case_of t.problem.now) ls)
    → OnErr r (◌≡◌ {A = ProblemTheory} (record { problem = t.problem; counts = t.counts; lines = ls; counted = a; rising = b; in_range = c }) t)
grown_err t ls (Ok x) none a b c = none
grown_err t ls (Err e) same a b c = same_theory t ls same a b c

-- ---- a line by its number

pub number_at : (lines : List Line) (k : ℕ) (line : Line) → k < length lines → line ≡ get_or lines k line → get_or (numbers_of lines) k 0 ≡ line.number
number_at lines k line low is = get_or-map (λ (l : Line). l.number) lines k line 0 low ∙ ap (λ (l : Line). l.number) (sym is)

-- the first lines have lower numbers, and the one behind them, if there is one, has another
pub none_has : (lines : List Line) (n place : ℕ) → IsStrictlyIncreasing (numbers_of lines) → AreBelow (numbers_of lines) n place
    → (place < length lines → get_or (numbers_of lines) place 0 ≡ n → ⊥) → line_at lines n ≡ None
none_has lines n place rising below other = not_found lines n (λ k d low e.
    let size : length (numbers_of lines) ≡ length lines = length-map lines (λ (l : Line). l.number) in
    let at : get_or (numbers_of lines) k 0 ≡ n = get_or-map (λ (l : Line). l.number) lines k d 0 low ∙ e in
    elim (cases_lt k place) [
      | inl early ↦ absurd (omega (arith, below.below k early, at))
      | inr late ↦ elim (cases_eq k place) [
        | inl same ↦ other (omega arith) (subst (λ (j : ℕ). get_or (numbers_of lines) j 0 ≡ n) same at)
        | inr apart ↦
            let here = below.above place (omega arith) (omega (arith, size)) in
            let step = rising place (omega (arith, size)) in
            let rest = rising_le (numbers_of lines) rising (place + 1) k (omega arith) (omega (arith, size)) in
            absurd (omega (arith, here, step, rest, at))
      ]
    ])

pub one_has : (lines : List Line) (n place : ℕ) (line : Line) → IsStrictlyIncreasing (numbers_of lines) → place < length lines → line ≡ get_or lines place line → line.number ≡ n
    → line_at lines n ≡ Some line.conds
one_has lines n place line rising low is number = subst (λ (m : ℕ). line_at lines m ≡ Some line.conds) number (found_at lines rising line place low (sym is))

-- a line that is found is one of the lines
line_in : (lines : List Line) (n : ℕ) (conds : List Cond) → line_at lines n ≡ Some conds → (line : Line) × Contains lines line × (line.conds ≡ conds)
line_in [] n conds found = cc
line_in (first ∷ lines) n conds found = elim (cases_Bool (first.number == n)) [
  | inl e ↦
      let is : Some first.conds ≡ Some conds = ap (λ (t : Bool). if t then Some first.conds else line_at lines n) (sym e) ∙ found in
      let same : first.conds ≡ conds = cc in
      (first, (0, omega arith, refl), same)
  | inr e ↦
      let rest = line_in lines n conds (ap (λ (t : Bool). if t then Some first.conds else line_at lines n) (sym e) ∙ found) in
      (rest.0, (suc rest.1.0, omega (arith, rest.1.1), rest.1.2), rest.2)
]

pub fit_found : (case : Case) (lines : List Line) (n : ℕ) (conds : List Cond) (counts : List ℕ) → AreKnown case lines → line_at lines n ≡ Some conds → counts ≡ counts_of case → AllFit counts conds
fit_found case lines n conds counts known found same k d low =
    let line = line_in lines n conds found in
    let range : AreInRange case conds = subst (AreInRange case) line.2 (known.each line.0 line.1) in
    let cond = get_or conds k d in
    let here : Contains conds cond = (k, low, get_or_default conds k cond d low) in
    record { ordered = range.ordered cond here; known = subst (λ (ns : List ℕ). cond.hi < get_or ns cond.carrier 0) (sym same) (range.known cond here) }
