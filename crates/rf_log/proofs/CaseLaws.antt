-- The roles of an instance are carriers of the case.
use Rattle.std.proofs.Common.{◌≡◌, ℕ, zero, suc, ◌<◌, List, [], ◌∷◌, true, length, arith, subst, Bool, sym, inl, inr, false, not, cond, ap, ◌+◌, filter, refl}
use Rattle.std.specs.Prelude.{IsTrue, Contains, nat_lt, slice_index_or}
use Rattle.std.specs.List.{list_all, range_with_len}
use Rattle.std.proofs.lemmas.Bool.{and_parts, ltb-true, eqb-true, cases_eq, true≢false, and_from}
use Rattle.std.proofs.lemmas.List.{length-map}
use Rattle.rf_terms.specs.declared.kind.Kind.{Kind}
use Rattle.rf_log.specs.Case.{Case, counts_of, is_instance, are_distinct, is_in_order, are_together, is_among}
use Rattle.rf_terms.specs.Kinds.{roles_of}
use Rattle.std.proofs.lemmas.Bool.Decides.{nat_tests}

pub known_roles : (case : Case) (kind : Kind) (roles : List ℕ) → is_instance case kind roles ≡ true → list_all (λ c. nat_lt c (length case.carriers)) roles ≡ true
known_roles case kind roles inst = (and_parts _ _ (and_parts _ _ (and_parts _ _ (and_parts _ _ inst).0).0).0).1

pub known_in : (n : ℕ) (roles : List ℕ) (i : ℕ) (d : ℕ) → list_all (λ c. nat_lt c n) roles ≡ true → i < length roles → slice_index_or roles i d < n
known_in n [] i d all low = absurd (omega arith)
known_in n (c ∷ cs) zero d all low = ltb-true _ _ (and_parts (nat_lt c n) _ all).0
known_in n (c ∷ cs) (suc i) d all low = known_in n cs i d (and_parts (nat_lt c n) _ all).1 (omega arith)

pub known_role : (case : Case) (kind : Kind) (roles : List ℕ) (r : ℕ) → IsTrue (is_instance case kind roles) → Contains roles r → r < length case.carriers
known_role case kind roles r inst has =
    subst (λ (x : ℕ). x < length case.carriers) has.2 (known_in (length case.carriers) roles has.0 r (known_roles case kind roles inst) has.1)

-- as many counts as carriers
pub counts_length : (case : Case) → length (counts_of case) ≡ length case.carriers
counts_length case = length-map case.carriers (λ c. length c.freqs)

pub instance_distinct : (case : Case) (kind : Kind) (roles : List ℕ) → is_instance case kind roles ≡ true → are_distinct roles ≡ true
instance_distinct case kind roles made =
    let a = and_parts _ (are_together case roles) made in
    let b = and_parts _ (is_in_order kind roles) a.0 in
    (and_parts _ (are_distinct roles) b.0).1

pub instance_full : (case : Case) (kind : Kind) (roles : List ℕ) → is_instance case kind roles ≡ true → length roles ≡ roles_of kind
instance_full case kind roles made = eqb-true (length roles) (roles_of kind) (and_parts _ _ (and_parts _ _ (and_parts _ _ (and_parts _ _ made).0).0).0).0

-- one that passes the test among those that all do
pub among_all : (p : ℕ → Bool) (xs : List ℕ) (o : ℕ) → list_all p xs ≡ true → is_among xs o ≡ true → p o ≡ true
among_all p [] o all among = absurd (true≢false (sym among))
among_all p (x ∷ xs) o all among =
    let parts = and_parts (p x) (list_all p xs) all in
    elim (cases_eq x o) [
      | inl e ↦ subst (λ (y : ℕ). p y ≡ true) e parts.0
      | inr e ↦ let later : is_among xs o ≡ true = grind (arith, nat_tests) in among_all p xs o parts.1 later
    ]

pub distinct_cond : (b : Bool) (a : ℕ) (xs : List ℕ) → is_among xs a ≡ false → are_distinct xs ≡ true → are_distinct (cond b (a ∷ xs) xs) ≡ true
distinct_cond true a xs h d = and_from _ _ (ap not h) d
distinct_cond false a xs h d = d

pub absent_cond : (b : Bool) (a c : ℕ) (xs : List ℕ) → c < a → is_among xs c ≡ false → is_among (cond b (a ∷ xs) xs) c ≡ false
absent_cond true a c xs low h = grind (arith, nat_tests, low, h)
absent_cond false a c xs low h = h

pub absent_below : (p : ℕ → Bool) (a n c : ℕ) → c < a → is_among (filter p (range_with_len a n)) c ≡ false
absent_below p a zero c low = refl
absent_below p a (suc n) c low = absent_cond (p a) a c (filter p (range_with_len (a + 1) n)) low (absent_below p (a + 1) n c (omega (arith, low)))

pub distinct_range : (p : ℕ → Bool) (a n : ℕ) → are_distinct (filter p (range_with_len a n)) ≡ true
distinct_range p a zero = refl
distinct_range p a (suc n) = distinct_cond (p a) a _ (absent_below p (a + 1) n a (omega arith)) (distinct_range p (a + 1) n)
