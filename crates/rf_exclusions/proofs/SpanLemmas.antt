-- What the lists of intervals hold after a span is added or cut out.
use Rattle.std.proofs.Common.{◌≡◌, ℕ, ◌+◌, ◌≤◌, List, [], ◌∷◌, ◌++◌, Bool, true, false, not, ◌&&◌, ◌||◌, ◌==◌, length, IsTrue, refl, sym, ◌∙◌, ap, arith, inl, inr, min, max}
use Rattle.std.specs.Prelude.{nat_lt, nat_le}
use Rattle.std.specs.List.{list_all}
use Rattle.std.proofs.lemmas.Bool.{cases_Bool, ltb-true, ltb-false, or_left, or_right, true≢false, ne_eqb, and_parts, and_from, or_cases, or_parts, le-leb}
use Rattle.std.proofs.lemmas.Bool.Decides.{nat_tests}
use Rattle.rf_exclusions.specs.declared.span.Span.{Span}
use Rattle.rf_exclusions.specs.Spans.{between, has_in, AreApartFrom, AreApart, IsEmptySet, IsOnly, IsWithin, Misses, joined, with_span, left_of, right_of, without_span}
use Rattle.rf_base.proofs.BoolLaws.{or_joined}

join_between : (a b x lo hi : ℕ) → a ≤ b → lo ≤ hi → lo ≤ b + 1 → a ≤ hi + 1
    → between (min a lo) (max b hi) x ≡ (between a b x || between lo hi x)
join_between a b x lo hi ab lohi near near' = grind (arith, nat_tests)

or_swap : (a b c : Bool) → ((a || b) || c) ≡ (b || (a || c))
or_swap true true c = refl
or_swap true false c = refl
or_swap false true c = refl
or_swap false false c = refl

or_last : (a b : Bool) → (a || b) ≡ (b || a)
or_last true true = refl
or_last true false = refl
or_last false true = refl
or_last false false = refl

pub apart-lower : (low high : ℕ) (spans : List Span) → low ≤ high → AreApartFrom high spans → AreApartFrom low spans
apart-lower low high [] le apart = tt
apart-lower low high (span ∷ spans) le apart = (omega arith, apart.1, apart.2)

pub with_span-has : (low : ℕ) (span : Span) (spans : List Span) (x : ℕ) → AreApartFrom low spans → span.lo ≤ span.hi
    → has_in (with_span span spans) x ≡ (has_in spans x || between span.lo span.hi x)
with_span-has low span [] x apart ok = or_last (between span.lo span.hi x) false
with_span-has low span (next ∷ spans) x apart ok = elim (cases_Bool (nat_lt (next.hi + 1) span.lo)) [
  | inl before ↦ rw before (ap (λ (b : Bool). between next.lo next.hi x || b) (with_span-has (next.hi + 2) span spans x apart.2 ok)
      ∙ or_joined (between next.lo next.hi x) (has_in spans x) (between span.lo span.hi x))
  | inr not_before ↦ rw not_before (elim (cases_Bool (nat_lt (span.hi + 1) next.lo)) [
    | inl after ↦ rw after (or_last (between span.lo span.hi x) (has_in (next ∷ spans) x))
    | inr touching ↦
        let near = ltb-false (next.hi + 1) span.lo not_before in
        let near' = ltb-false (span.hi + 1) next.lo touching in
        rw touching (with_span-has low (joined next span) spans x (apart-lower low (next.hi + 2) spans (omega arith) apart.2) (omega arith)
        ∙ (ap (λ (b : Bool). has_in spans x || b) (join_between next.lo next.hi x span.lo span.hi apart.1 ok near near')
        ∙ sym (or_swap (between next.lo next.hi x) (has_in spans x) (between span.lo span.hi x))))
  ])
]

pub with_span-apart : (low : ℕ) (span : Span) (spans : List Span) → AreApartFrom low spans → low ≤ span.lo → span.lo ≤ span.hi
    → AreApartFrom low (with_span span spans)
with_span-apart low span [] apart from ok = (from, ok, tt)
with_span-apart low span (next ∷ spans) apart from ok = elim (cases_Bool (nat_lt (next.hi + 1) span.lo)) [
  | inl before ↦
      let gap = ltb-true (next.hi + 1) span.lo before in
      rw before (apart.0, apart.1, with_span-apart (next.hi + 2) span spans apart.2 (omega arith) ok)
  | inr not_before ↦ rw not_before (elim (cases_Bool (nat_lt (span.hi + 1) next.lo)) [
    | inl after ↦
        let gap = ltb-true (span.hi + 1) next.lo after in
        rw after (from, ok, (omega arith, apart.1, apart.2))
    | inr touching ↦ rw touching (with_span-apart low (joined next span) spans (apart-lower low (next.hi + 2) spans (omega arith) apart.2) (omega arith) (omega arith))
  ])
]

any_append : (xs ys : List Span) (x : ℕ) → has_in (xs ++ ys) x ≡ (has_in xs x || has_in ys x)
any_append [] ys x = refl
any_append (s ∷ xs) ys x = ap (λ (b : Bool). between s.lo s.hi x || b) (any_append xs ys x) ∙ or_joined (between s.lo s.hi x) (has_in xs x) (has_in ys x)

pieces_has : (gone span : Span) (x : ℕ) → gone.lo ≤ gone.hi → span.lo ≤ span.hi
    → has_in (left_of gone span ++ right_of gone span) x ≡ (between span.lo span.hi x && not (between gone.lo gone.hi x))
pieces_has gone span x ok ok' = elim (cases_Bool (nat_lt span.lo gone.lo)) [
  | inl left ↦ rw left (elim (cases_Bool (nat_lt gone.hi span.hi)) [
    | inl right ↦ rw right (grind (arith, nat_tests, ltb-true span.lo gone.lo left, ltb-true gone.hi span.hi right))
    | inr none ↦ rw none (grind (arith, nat_tests, ltb-true span.lo gone.lo left, ltb-false gone.hi span.hi none))
  ])
  | inr no_left ↦ rw no_left (elim (cases_Bool (nat_lt gone.hi span.hi)) [
    | inl right ↦ rw right (grind (arith, nat_tests, ltb-false span.lo gone.lo no_left, ltb-true gone.hi span.hi right))
    | inr none ↦ rw none (grind (arith, nat_tests, ltb-false span.lo gone.lo no_left, ltb-false gone.hi span.hi none))
  ])
]

and_over : (a b c : Bool) → ((a && c) || (b && c)) ≡ ((a || b) && c)
and_over true true true = refl
and_over true true false = refl
and_over true false true = refl
and_over true false false = refl
and_over false b c = refl

pub without_span-has : (low : ℕ) (gone : Span) (spans : List Span) (x : ℕ) → AreApartFrom low spans → gone.lo ≤ gone.hi
    → has_in (without_span gone spans) x ≡ (has_in spans x && not (between gone.lo gone.hi x))
without_span-has low gone [] x apart ok = refl
without_span-has low gone (span ∷ spans) x apart ok =
    any_append (left_of gone span ++ right_of gone span) (without_span gone spans) x
    ∙ (ap (λ (b : Bool). b || has_in (without_span gone spans) x) (pieces_has gone span x ok apart.1)
    ∙ (ap (λ (b : Bool). (between span.lo span.hi x && not (between gone.lo gone.hi x)) || b) (without_span-has (span.hi + 2) gone spans x apart.2 ok)
    ∙ and_over (between span.lo span.hi x) (has_in spans x) (not (between gone.lo gone.hi x))))

pub without_span-apart : (low : ℕ) (gone : Span) (spans : List Span) → AreApartFrom low spans → gone.lo ≤ gone.hi → AreApartFrom low (without_span gone spans)
without_span-apart low gone [] apart ok = tt
without_span-apart low gone (span ∷ spans) apart ok =
    let rest = without_span-apart (span.hi + 2) gone spans apart.2 ok in
    elim (cases_Bool (nat_lt span.lo gone.lo)) [
      | inl left ↦ let l = ltb-true span.lo gone.lo left in rw left (elim (cases_Bool (nat_lt gone.hi span.hi)) [
        | inl right ↦ let r = ltb-true gone.hi span.hi right in rw right (apart.0, omega arith, (omega arith, omega arith, rest))
        | inr none ↦ rw none (apart.0, omega arith, apart-lower _ (span.hi + 2) (without_span gone spans) (omega arith) rest)
      ])
      | inr no_left ↦ rw no_left (elim (cases_Bool (nat_lt gone.hi span.hi)) [
        | inl right ↦ let r = ltb-true gone.hi span.hi right in rw right (omega arith, omega arith, rest)
        | inr none ↦ rw none (apart-lower low (span.hi + 2) (without_span gone spans) (omega arith) rest)
      ])
    ]

ends_in : (span : Span) → span.lo ≤ span.hi → (between span.lo span.hi span.lo ≡ true) × (between span.lo span.hi span.hi ≡ true)
ends_in span ok = (grind (arith, nat_tests), grind (arith, nat_tests))

abbrev pub span_of : ℕ → ℕ → Span
span_of lo hi = record { lo = lo; hi = hi }

pub nothing_in : (spans : List Span) → AreApart spans → IsEmptySet spans → spans ≡ []
nothing_in [] apart none = refl
nothing_in (span ∷ spans) apart none = absurd (true≢false (sym (or_left (between span.lo span.hi span.lo) (has_in spans span.lo) (ends_in span apart.1).0) ∙ none span.lo))

-- a set with one number is one interval from it to it
pub only_span : (spans : List Span) (x : ℕ) → AreApart spans → IsOnly spans x → spans ≡ (record { lo = x; hi = x }) ∷ []
only_span [] x apart only = cc
only_span (span ∷ []) x apart only =
    let lo_is = only.1 span.lo (or_left (between span.lo span.hi span.lo) false (ends_in span apart.1).0) in
    let hi_is = only.1 span.hi (or_left (between span.lo span.hi span.hi) false (ends_in span apart.1).1) in
    ap (λ (lo : ℕ). span_of lo span.hi ∷ []) lo_is ∙ ap (λ (hi : ℕ). span_of x hi ∷ []) hi_is
only_span (span ∷ next ∷ spans) x apart only =
    let lo_is = only.1 span.lo (or_left (between span.lo span.hi span.lo) (has_in (next ∷ spans) span.lo) (ends_in span apart.1).0) in
    let hi_is = only.1 next.lo (or_right (between span.lo span.hi next.lo) (has_in (next ∷ spans) next.lo)
    (or_left (between next.lo next.hi next.lo) (has_in spans next.lo) (ends_in next apart.2.1).0)) in
    absurd (omega (arith, lo_is, hi_is, apart.1, apart.2.0))

pub empty_iff : (spans slice : List Span) (b : Bool) → AreApart spans → slice ≡ spans → b ≡ (length slice == 0)
    → (IsTrue b → IsEmptySet spans) × (IsEmptySet spans → IsTrue b)
empty_iff [] slice b apart same is = (λ yes x. refl, λ none. is ∙ ap (λ (xs : List Span). length xs == 0) same)
empty_iff (span ∷ spans) slice b apart same is = (
  λ yes. absurd (true≢false (sym yes ∙ (is ∙ (ap (λ (xs : List Span). length xs == 0) same ∙ ne_eqb (length (span ∷ spans)) 0 (λ e. omega arith))))),
  λ none. let nil = nothing_in (span ∷ spans) apart none in cc,
)

pub only_slice : (spans slice : List Span) (x : ℕ) → AreApart spans → slice ≡ spans → IsOnly spans x → slice ≡ (record { lo = x; hi = x }) ∷ []
only_slice spans slice x apart same only = same ∙ only_span spans x apart only

pub within-from : (low lo hi : ℕ) (spans : List Span) → AreApartFrom low spans → list_all (λ span. nat_le lo span.lo && nat_le span.hi hi) spans ≡ true → IsWithin lo hi spans
within-from low lo hi [] apart all x here = cc
within-from low lo hi (span ∷ spans) apart all x here =
    let parts = and_parts (nat_le lo span.lo && nat_le span.hi hi) _ all in
    let ends = and_parts (nat_le lo span.lo) _ parts.0 in
    elim (or_cases (between span.lo span.hi x) (has_in spans x) here) [
      | inl first ↦ grind (arith, nat_tests, and_parts (nat_le span.lo x) _ first, ends)
      | inr rest ↦ within-from (span.hi + 2) lo hi spans apart.2 parts.1 x rest
    ]

pub within-to : (low lo hi : ℕ) (spans : List Span) → AreApartFrom low spans → IsWithin lo hi spans → list_all (λ span. nat_le lo span.lo && nat_le span.hi hi) spans ≡ true
within-to low lo hi [] apart within = refl
within-to low lo hi (span ∷ spans) apart within =
    let first = within span.lo (or_left (between span.lo span.hi span.lo) (has_in spans span.lo) (ends_in span apart.1).0) in
    let last = within span.hi (or_left (between span.lo span.hi span.hi) (has_in spans span.hi) (ends_in span apart.1).1) in
    and_from (nat_le lo span.lo && nat_le span.hi hi) _ (and_from (nat_le lo span.lo) _ (and_parts (nat_le lo span.lo) _ first).0 (and_parts (nat_le lo span.hi) _ last).1)
    (within-to (span.hi + 2) lo hi spans apart.2 (λ x here. within x (or_right (between span.lo span.hi x) (has_in spans x) here)))

pub misses-from : (low lo hi : ℕ) (spans : List Span) → AreApartFrom low spans → list_all (λ span. nat_lt span.hi lo || nat_lt hi span.lo) spans ≡ true → Misses lo hi spans
misses-from low lo hi [] apart all x here = cc
misses-from low lo hi (span ∷ spans) apart all x here =
    let parts = and_parts (nat_lt span.hi lo || nat_lt hi span.lo) _ all in
    elim (or_cases (between span.lo span.hi x) (has_in spans x) here) [
      | inl first ↦ elim (or_cases (nat_lt span.hi lo) _ parts.0) [
        | inl left ↦ grind (arith, nat_tests, and_parts (nat_le span.lo x) _ first, left)
        | inr right ↦ grind (arith, nat_tests, and_parts (nat_le span.lo x) _ first, right)
      ]
      | inr rest ↦ misses-from (span.hi + 2) lo hi spans apart.2 parts.1 x rest
    ]

-- the least number of both, where the two overlap
overlap : (span : Span) (lo hi : ℕ) → lo ≤ hi → span.lo ≤ span.hi → (nat_lt span.hi lo || nat_lt hi span.lo) ≡ false
    → (between span.lo span.hi (max span.lo lo) ≡ true) × (between lo hi (max span.lo lo) ≡ true)
overlap span lo hi ok ok' apart =
    let parts = or_parts (nat_lt span.hi lo) _ apart in
    let a = ltb-false span.hi lo parts.0 in
    let b = ltb-false hi span.lo parts.1 in (
      and_from (nat_le span.lo (max span.lo lo)) _ (le-leb _ _ (omega arith)) (le-leb _ _ (omega arith)),
      and_from (nat_le lo (max span.lo lo)) _ (le-leb _ _ (omega arith)) (le-leb _ _ (omega arith)),
    )

pub misses-to : (low lo hi : ℕ) (spans : List Span) → lo ≤ hi → AreApartFrom low spans → Misses lo hi spans → list_all (λ span. nat_lt span.hi lo || nat_lt hi span.lo) spans ≡ true
misses-to low lo hi [] ok apart misses = refl
misses-to low lo hi (span ∷ spans) ok apart misses =
    let rest = misses-to (span.hi + 2) lo hi spans ok apart.2 (λ x here. misses x (or_right (between span.lo span.hi x) (has_in spans x) here)) in
    elim (cases_Bool (nat_lt span.hi lo || nat_lt hi span.lo)) [
      | inl outside ↦ and_from (nat_lt span.hi lo || nat_lt hi span.lo) _ outside rest
      | inr meets ↦
          let both = overlap span lo hi ok apart.1 meets in
          absurd (true≢false (sym both.1 ∙ misses (max span.lo lo) (or_left (between span.lo span.hi (max span.lo lo)) (has_in spans (max span.lo lo)) both.0)))
    ]
