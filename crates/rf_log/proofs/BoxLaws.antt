-- Tests of all numbers below a bound, the only one that passes, and what they say of boxes and bans.
use Rattle.std.proofs.Common.{◌≡◌, ℕ, Bool, true, false, arith, zero, suc, ◌<◌, sym, subst, inl, inr, refl, not, ◌∙◌, ap, ◌≤◌, ◌&&◌, true≢false, le-leb, leb-true, Some, None, if◌then◌else◌}
use Rattle.std.proofs.lemmas.Bool.Decides.{nat_tests}
use Rattle.rf_log.specs.Box.{Box, without, each_below, only_below, between}
use Rattle.std.proofs.lemmas.Bool.{and_parts, and_from, cases_Bool, not-true, and_right, and_left, cases_lt, not_from_false, false_from_ne_true}
use Rattle.rf_log.specs.Case.{Case, count_of, is_allowed}
use Rattle.rf_log.specs.Hints.{is_barred}
use Rattle.rf_base.proofs.NumberLaws.{lt_cases}
use Rattle.rf_base.proofs.OptionLaws.{some_when}

pub without_gone : (b : Box) (c : ℕ) (gone : ℕ → Bool) (k : ℕ) → gone k ≡ true → without b c gone c k ≡ false
without_gone b c gone k e = grind (arith, nat_tests)

pub each_below-at : (n : ℕ) (p : ℕ → Bool) (k : ℕ) → each_below n p ≡ true → k < n → p k ≡ true
each_below-at zero p k all low = absurd (omega arith)
each_below-at (suc n) p k all low =
    let parts = and_parts (each_below n p) (p n) all in
    let last_or = lt_cases k n low in
    elim last_or [ inl below ↦ each_below-at n p k parts.0 below | inr last ↦ subst (λ (j : ℕ). p j ≡ true) (sym last) parts.1 ]

pub each_below-from : (n : ℕ) (p : ℕ → Bool) → ((k : ℕ) → k < n → p k ≡ true) → each_below n p ≡ true
each_below-from zero p all = refl
each_below-from (suc n) p all = and_from (each_below n p) (p n) (each_below-from n p (λ k low. all k (omega arith))) (all n (omega arith))

pub only_below-is : (n : ℕ) (p : ℕ → Bool) (k j : ℕ) → only_below n p ≡ Some k → j < n → p j ≡ true → j ≡ k
only_below-is zero p k j only low here = absurd (omega arith)
only_below-is (suc n) p k j only low here = elim (cases_Bool (p n)) [
  | inl at_n ↦
      let met : (if each_below n (λ i. not (p i)) then Some n else None) ≡ Some k =
      subst (λ (b : Bool). (if b then (if each_below n (λ i. not (p i)) then Some n else None) else only_below n p) ≡ Some k) at_n only in
      let parts = some_when _ n k met in
      let last_or = lt_cases j n low in
      elim last_or [
        | inl below ↦ absurd (true≢false (sym here ∙ not-true (p j) (each_below-at n (λ i. not (p i)) j parts.0 below)))
        | inr last ↦ last ∙ parts.1
      ]
  | inr not_n ↦
      let met : only_below n p ≡ Some k =
      subst (λ (b : Bool). (if b then (if each_below n (λ i. not (p i)) then Some n else None) else only_below n p) ≡ Some k) not_n only in
      let last_or = lt_cases j n low in
      elim last_or [
        | inl below ↦ only_below-is n p k j met below here
        | inr last ↦ absurd (true≢false (sym here ∙ (ap p last ∙ not_n)))
      ]
]

-- a test that fails somewhere below n doesn't hold of each number there
pub each_fails : (n : ℕ) (p : ℕ → Bool) (k : ℕ) → k < n → p k ≡ false → each_below n p ≡ false
each_fails n p k low fails = elim (cases_Bool (each_below n p)) [
  | inr failed ↦ failed
  | inl all ↦ absurd (true≢false (sym (each_below-at n p k all low) ∙ fails))
]

pub barred_not : (case : Case) (c lo hi k : ℕ) → k < count_of case c → lo ≤ k → k ≤ hi → is_allowed case c k ≡ true → is_barred case c lo hi ≡ false
barred_not case c lo hi k low from to allowed = each_fails (count_of case c) (λ k. not (between lo hi k && is_allowed case c k)) k low
    (ap not (and_from (between lo hi k) _ (and_from _ _ (le-leb lo k from) (le-leb k hi to)) allowed))

pub barred_all : (case : Case) (c lo hi : ℕ) → ((j : ℕ) → lo ≤ j → j ≤ hi → is_allowed case c j ≡ false) → is_barred case c lo hi ≡ true
barred_all case c lo hi none = each_below-from (count_of case c) (λ k. not (between lo hi k && is_allowed case c k)) (λ k low.
    elim (cases_Bool (between lo hi k)) [
      | inr out ↦ ap not (and_left (between lo hi k) _ out)
      | inl inside ↦
          let ends = and_parts _ _ inside in
          ap not (and_right (between lo hi k) _ (none k (leb-true lo k ends.0) (leb-true k hi ends.1)))
    ])

pub only_below-from : (n : ℕ) (p : ℕ → Bool) (k : ℕ) → k < n → p k ≡ true → ((j : ℕ) → p j ≡ true → j ≡ k) → only_below n p ≡ Some k
only_below-from zero p k low here only = absurd (omega arith)
only_below-from (suc n) p k low here only = elim (cases_Bool (p n)) [
  | inl at_n ↦
      let is : n ≡ k = only n at_n in
      let none : each_below n (λ j. not (p j)) ≡ true = each_below-from n (λ j. not (p j)) (λ j below. not_from_false (p j) (false_from_ne_true (p j) (λ e. omega (arith, only j e, is, below)))) in
      rw (at_n, none) (ap Some is)
  | inr not_n ↦ rw not_n (elim (cases_lt k n) [
    | inl below ↦ only_below-from n p k below here only
    | inr above ↦ let is : k ≡ n = omega arith in absurd (true≢false (sym here ∙ (ap p is ∙ not_n)))
  ])
]

pub only_below-sound : (n : ℕ) (p : ℕ → Bool) (k : ℕ) → only_below n p ≡ Some k → (k < n) × (p k ≡ true)
only_below-sound zero p k e = cc
only_below-sound (suc n) p k e = elim (cases_Bool (p n)) [
  | inl at_n ↦
      let parts = some_when (each_below n (λ j. not (p j))) n k (rw at_n at e) in
      let is : n ≡ k = parts.1 in
      (omega arith, subst (λ (j : ℕ). p j ≡ true) is at_n)
  | inr not_n ↦
      let rest = only_below-sound n p k (rw not_n at e) in
      (omega (arith, rest.0), rest.1)
]
