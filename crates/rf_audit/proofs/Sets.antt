-- Lists of which one place is new, and counts that are one more.
use Rattle.std.proofs.Common.{◌≡◌, ◌∙◌, ◌<◌, ◌+◌, ℕ, List, [], ◌∷◌, ◌++◌, length, get_or, set, Bool, true, ◌&&◌, refl, sym, subst, arith, inl, inr}
use Rattle.std.proofs.lemmas.Bool.{cases_eq, cases_lt, and_parts, and_from}
use Rattle.std.proofs.lemmas.List.{get_or-set_same, get_or-set_other, length-set, get_or_push}
use Rattle.std.proofs.Math.ListN.{get_or-append}
use Rattle.rf_log.specs.Case.{Case, count_of}
use Rattle.rf_audit.specs.Left.{has, in_sets, AreSized}

pub or-last : {P : Type 0} (m n : ℕ) → (m < n → P) → (m ≡ n → P) → m < n + 1 → P
or-last m n before last low = elim (cases_lt m n) [
  | inl below ↦ before below
  | inr above ↦ last (omega (arith, low, above))
]

pub one-more : (P : ℕ → Type 0) (n : ℕ) → ((i : ℕ) → i < n → P i) → P n → (i : ℕ) → i < n + 1 → P i
one-more P n before here i = or-last i n (before i) (λ is. subst P (sym is) here)

pub at-set : {X : Type 0} (P : ℕ → X → Type 0) (xs : List X) (c : ℕ) (x d : X) → c < length xs → P c x → ((i : ℕ) → (i ≡ c → ⊥) → P i (get_or xs i d))
    → (i : ℕ) → P i (get_or (set xs c x) i d)
at-set {X} P xs c x d low here others i = elim (cases_eq i c) [
  | inl same ↦ subst (λ (j : ℕ). P j (get_or (set xs c x) j d)) (sym same) (subst (P c) (sym (get_or-set_same xs c x d low)) here)
  | inr other ↦ subst (P i) (sym (get_or-set_other xs c i x d other)) (others i other)
]

pub at-push : {X : Type 0} (P : ℕ → X → Type 0) (xs : List X) (x d : X) (n : ℕ) → length xs ≡ n → ((i : ℕ) → i < n → P i (get_or xs i d)) → P n x
    → (i : ℕ) → i < n + 1 → P i (get_or (xs ++ x ∷ []) i d)
at-push {X} P xs x d n full before here = one-more (λ i. P i (get_or (xs ++ x ∷ []) i d)) n
    (λ i low. subst (P i) (sym (get_or-append xs (x ∷ []) d i (omega (arith, full, low)))) (before i low)) (subst (P n) (sym (get_or_push xs x d n full)) here)

-- sets of which one keeps what passes a test
module _ (old : List (List Bool)) (c : ℕ) (marks : List Bool) (test : ℕ → Bool) (low : c < length old) (cut : (k : ℕ) → has marks k ≡ (has (get_or old c []) k && test k)) where
  pub less-fewer : (d k : ℕ) → in_sets (set old c marks) d k ≡ true → (in_sets old d k ≡ true) × (d ≡ c → test k ≡ true)
  less-fewer d k = at-set (λ d ms. has ms k ≡ true → (in_sets old d k ≡ true) × (d ≡ c → test k ≡ true)) old c marks [] low
      (λ here. let parts = and_parts _ (test k) (sym (cut k) ∙ here) in (parts.0, λ _. parts.1)) (λ d other here. (here, λ same. absurd (other same))) d

  pub less-kept : (d k : ℕ) → in_sets old d k ≡ true → (d ≡ c → test k ≡ true) → in_sets (set old c marks) d k ≡ true
  less-kept d k = at-set (λ d ms. in_sets old d k ≡ true → (d ≡ c → test k ≡ true) → has ms k ≡ true) old c marks [] low
      (λ here met. cut k ∙ and_from _ _ here (met refl)) (λ d other here met. here) d

  pub less-sized : (case : Case) → AreSized case old → length marks ≡ length (get_or old c []) → AreSized case (set old c marks)
  less-sized case sized long = record {
    full = length-set old c marks ∙ sized.full;
    sizes = at-set (λ d ms. length ms ≡ count_of case d) old c marks [] low (long ∙ sized.sizes c) (λ d other. sized.sizes d);
  }
