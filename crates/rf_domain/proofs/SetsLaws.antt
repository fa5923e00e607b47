-- The sets of all carriers: one set changed, all sets made, the indices counted.
use Rattle.std.proofs.Common.{◌≡◌, ℕ, zero, suc, ◌+◌, ◌*◌, ◌<◌, ◌≤◌, List, [], ◌∷◌, Bool, true, false, ◌&&◌, length, map, get_or, set, add-one, refl, sym, ◌∙◌, ap, subst, arith, inl, inr}
use Rattle.std.specs.Prelude.{nat_lt, nat_le, ◌==◌}
use Rattle.std.specs.List.{list_all}
use Rattle.std.proofs.lemmas.Bool.{cases_lt, cases_eq, and_parts, leb-true}
use Rattle.std.proofs.lemmas.Bool.Decides.{nat_tests}
use Rattle.std.proofs.lemmas.List.{get_or-set_same, get_or-set_other, get_or_past, length-map}
use Rattle.std.proofs.lemmas.Grind.{same_number_lists}
use Rattle.std.proofs.Math.Path.{fun_ext}
use Rattle.rf_domain.specs.declared.limits.TheConstants.{INDEX_LIMIT}
use Rattle.rf_domain.specs.Indices.{flag, count_below, IsWhole}
use Rattle.rf_domain.specs.Sets.{size_of, sizes, has, total_below, AreFull}
use Rattle.rf_domain.proofs.CountLaws.{count_bound, count_mono, count_same}
use Rattle.rf_base.proofs.NumberLaws.{lt_cases}

pub size_get : (sets : List (List Bool)) (c : ℕ) → size_of (sizes sets) c ≡ length (get_or sets c [])
size_get [] c = refl
size_get (s ∷ ss) zero = refl
size_get (s ∷ ss) (suc c) = size_get ss c

pub known_carrier : (sets : List (List Bool)) (c k : ℕ) → k < size_of (sizes sets) c → c < length sets
known_carrier [] c k h = absurd (omega arith)
known_carrier (s ∷ ss) zero k h = omega arith
known_carrier (s ∷ ss) (suc c) k h = omega (arith, known_carrier ss c k h)

pub sizes_set : (sets : List (List Bool)) (c : ℕ) (s : List Bool) → length s ≡ length (get_or sets c []) → sizes (set sets c s) ≡ sizes sets
sizes_set [] c s e = refl
sizes_set (x ∷ xs) zero s e = ap (λ n. n ∷ map length xs) e
sizes_set (x ∷ xs) (suc c) s e = ap (λ ns. length x ∷ ns) (sizes_set xs c s e)

-- one carrier's set is changed at the indices that pass a test
pub has_set : (f : Bool → Bool → Bool) → ((b : Bool) → f b false ≡ b) → (sets : List (List Bool)) (carrier : ℕ) (test : ℕ → Bool) (s : List Bool)
    → carrier < length sets → ((k : ℕ) → flag s k ≡ f (flag (get_or sets carrier []) k) (test k))
    → has (set sets carrier s) ≡ (λ c k. f (has sets c k) ((c == carrier) && test k))
has_set f idle sets carrier test s known flags = fun_ext λ c. fun_ext λ k. at c k
  where
    at : (c k : ℕ) → has (set sets carrier s) c k ≡ f (has sets c k) ((c == carrier) && test k)
    at c k = elim (cases_eq c carrier) [
      | inl same ↦
          let here : (c == carrier) ≡ true = grind (arith, nat_tests) in
          ap (λ x. flag (get_or (set sets carrier s) x []) k) same ∙ ap (λ x. flag x k) (get_or-set_same sets carrier s [] known)
          ∙ flags k ∙ ap (λ x. f (flag (get_or sets x []) k) (test k)) (sym same)
          ∙ ap (λ b. f (has sets c k) (b && test k)) (sym here)
      | inr other ↦
          let apart : (c == carrier) ≡ false = grind (arith, nat_tests) in
          ap (λ x. flag x k) (get_or-set_other sets carrier c s [] other)
          ∙ sym (idle (has sets c k)) ∙ ap (λ b. f (has sets c k) (b && test k)) (sym apart)
    ]

-- no count is above the limit
pub size_small : (counts : List ℕ) → list_all (λ n. nat_le n INDEX_LIMIT) counts ≡ true → (c : ℕ) → size_of counts c ≤ INDEX_LIMIT
size_small [] all c = omega arith
size_small (n ∷ ns) all zero = leb-true n INDEX_LIMIT (and_parts (nat_le n INDEX_LIMIT) _ all).0
size_small (n ∷ ns) all (suc c) = size_small ns (and_parts (nat_le n INDEX_LIMIT) _ all).1 c

pub total_bound : (counts : List ℕ) (old : ℕ → ℕ → Bool) (n : ℕ) → ((c : ℕ) → size_of counts c ≤ INDEX_LIMIT)
    → total_below counts old n ≤ n * INDEX_LIMIT
total_bound counts old zero small = omega arith
total_bound counts old (suc n) small =
    omega (arith, total_bound counts old n small, count_bound (old n) (size_of counts n), small n)

-- the sets of the first carriers are made
pub record MadeUpTo (sets : List (List Bool)) (counts : List ℕ) (upto : ℕ) : Type 0 where
  pub len : length sets ≡ upto
  pub whole : (c : ℕ) → c < upto → IsWhole (get_or sets c []) (size_of counts c)

pub made_all : (sets : List (List Bool)) (counts : List ℕ) → MadeUpTo sets counts (length counts) → AreFull sets counts
made_all sets counts made = record {
  sized = same_number_lists (sizes sets) counts (length-map sets length ∙ made.len) (λ k below.
      size_get sets k ∙ (made.whole k (omega (arith, length-map sets length, made.len))).sized);
  all = fun_ext λ c. fun_ext λ k. elim (cases_lt c (length counts)) [
    | inl known ↦ (made.whole c known).all k
    | inr past ↦
        let none : nat_lt k 0 ≡ false = grind (arith, nat_tests) in
        ap (λ x. flag x k) (get_or_past sets c [] (omega (arith, made.len)))
        ∙ sym (ap (λ n. nat_lt k n) (get_or_past counts c 0 past) ∙ none)
  ];
}

-- one more carrier counted
pub total_more : (sets : List (List Bool)) (i n : ℕ) → n ≡ count_below (flag (get_or sets i [])) (length (get_or sets i []))
    → total_below (sizes sets) (has sets) i + n ≡ total_below (sizes sets) (has sets) (i + 1)
total_more sets i n e =
    ap (λ x. total_below (sizes sets) (has sets) i + x) (e ∙ ap (count_below (flag (get_or sets i []))) (sym (size_get sets i)))
    ∙ ap (total_below (sizes sets) (has sets)) (sym (add-one i))

module _ (counts : List ℕ) (p q : ℕ → ℕ → Bool) (within : (c k : ℕ) → p c k ≡ true → q c k ≡ true) where
  pub total_mono : (n : ℕ) → total_below counts p n ≤ total_below counts q n
  total_mono zero = omega arith
  total_mono (suc n) = omega (arith, total_mono n, count_mono (p n) (q n) (within n) (size_of counts n))

  pub total_same : (n : ℕ) → total_below counts p n ≡ total_below counts q n
      → (c k : ℕ) → c < n → k < size_of counts c → p c k ≡ q c k
  total_same zero e c k h g = absurd (omega arith)
  total_same (suc n) e c k h g =
      let less = total_mono n in
      let here_less = count_mono (p n) (q n) (within n) (size_of counts n) in
      let here : count_below (p n) (size_of counts n) ≡ count_below (q n) (size_of counts n) = omega arith in
      let rest : total_below counts p n ≡ total_below counts q n = omega arith in
      elim (lt_cases c n h) [
        | inl below ↦ total_same n rest c k below g
        | inr same ↦
            let g' : k < size_of counts n = subst (λ (x : ℕ). k < size_of counts x) same g in
            ap (λ (x : ℕ). p x k) same ∙ count_same (p n) (q n) (within n) (size_of counts n) here k g' ∙ sym (ap (λ (x : ℕ). q x k) same)
      ]
