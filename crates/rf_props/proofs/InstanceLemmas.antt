-- Instances, and the indices that break them.
use Rattle.std.proofs.Common.{◌≡◌, ◌∙◌, ℕ, ◌<◌, ◌≤◌, ◌==◌, Bool, true, false, not, ◌&&◌, ◌||◌, ◌⊎◌, List, [], ◌∷◌, length, map, refl, sym, ap, inl, inr, arith}
use Rattle.std.specs.Prelude.{All, is_some, insert, pos, unsigned_abs, nat_lt}
use Rattle.std.specs.List.{list_all}
use Rattle.std.proofs.lemmas.Bool.{cases_Bool, cases_eq, and_parts, and_from, true≢false, eq-eqb, ltb-true, lt-ltb}
use Rattle.std.proofs.lemmas.Bool.Decides.{nat_tests}
use Rattle.rf_terms.specs.declared.kind.Kind.{Kind}
use Rattle.rf_terms.specs.Kinds.{roles_of, coefficients_of}
use Rattle.rf_terms.specs.Forms.{form}
use Rattle.rf_terms.specs.Windows.{Breaks}
use Rattle.rf_log.specs.Case.{Case, count_of, freq_of, margin_of, freqs_at, is_instance, is_in_order, is_among, are_distinct, are_together, is_broken, breaks}
use Rattle.rf_log.specs.Box.{Box, between, only_index}
use Rattle.rf_log.specs.Hints.{indices_with, is_ruled_out}
use Rattle.rf_props.specs.Sweeps.{sole_freq, AreFixed, IsClear}
use Rattle.rf_props.proofs.InsertLemmas.{all_insert}
use Rattle.rf_base.proofs.ListLaws.{tested_below, map_insert}
use Rattle.rf_base.proofs.BoolLaws.{implies}
use Rattle.rf_log.proofs.BoxLaws.{each_below-at, each_below-from}

pub instance_by : (case : Case) (kind : Kind) (roles : List ℕ) {n : ℕ} → length roles ≡ roles_of kind → length case.carriers ≡ n → All (λ c. c < n) roles
    → are_distinct roles ≡ true → is_in_order kind roles ≡ true → is_instance case kind roles ≡ are_together case roles
instance_by case kind roles size count known distinct ordered =
    let known' : list_all (λ c. nat_lt c (length case.carriers)) roles ≡ true = tested_below (length case.carriers) roles (λ k d h. omega (arith, known k d h)) in
    let as_long : (length roles == roles_of kind) ≡ true = eq-eqb (length roles) (roles_of kind) size in
    rw (as_long, known', distinct, ordered)

abbrev freq_with : Case → Box → ℕ → ℕ → ℕ → ℕ
freq_with case has c k r = freq_of case r (indices_with case has c k r)

at_target : (case : Case) (has : Box) (c k : ℕ) → freq_with case has c k c ≡ freq_of case c k
at_target case has c k = let e : (c == c) ≡ true = eq-eqb c c refl in rw e

at_other : (case : Case) (has : Box) (c k r : ℕ) → (r == c) ≡ false → freq_with case has c k r ≡ sole_freq case has r
at_other case has c k r e = rw e

at_others : (case : Case) (has : Box) (c k : ℕ) (others : List ℕ) → is_among others c ≡ false → map (freq_with case has c k) others ≡ map (sole_freq case has) others
at_others case has c k [] apart = refl
at_others case has c k (o ∷ os) apart =
    let here : (o == c) ≡ false = grind (arith, nat_tests) in
    let rest : is_among os c ≡ false = grind (arith, nat_tests) in
    ap (λ f. f ∷ map (freq_with case has c k) os) (at_other case has c k o here) ∙ ap (λ fs. sole_freq case has o ∷ fs) (at_others case has c k os rest)

-- the frequencies of an instance, where the target has index k and each other carrier its one index
pub freqs_with : (case : Case) (has : Box) (others freqs : List ℕ) (place c k : ℕ) → AreFixed case has others freqs → is_among others c ≡ false
    → freqs_at case (insert others place c) (indices_with case has c k) ≡ insert freqs place (freq_of case c k)
freqs_with case has others freqs place c k fixed apart =
    map_insert (freq_with case has c k) others place c
    ∙ ap (λ f. insert (map (freq_with case has c k) others) place f) (at_target case has c k)
    ∙ ap (λ fs. insert fs place (freq_of case c k)) (at_others case has c k others apart ∙ sym fixed.known)

-- the index breaks the instance just where its frequency breaks the form
pub breaks_form : (case : Case) (has : Box) (kind : Kind) (others freqs : List ℕ) (place c k : ℕ) → AreFixed case has others freqs → is_among others c ≡ false
    → breaks case kind (insert others place c) (indices_with case has c k) ≡
    nat_lt (unsigned_abs (form (coefficients_of kind) (insert (map pos freqs) place (pos (freq_of case c k))))) (margin_of case kind (insert others place c))
breaks_form case has kind others freqs place c k fixed apart =
    ap (λ fs. is_broken kind fs (margin_of case kind (insert others place c))) (freqs_with case has others freqs place c k fixed apart)
    ∙ ap (λ zs. nat_lt (unsigned_abs (form (coefficients_of kind) zs)) (margin_of case kind (insert others place c))) (map_insert pos freqs place (freq_of case c k))

pub breaks_if : (case : Case) (has : Box) (kind : Kind) (others freqs : List ℕ) (place c k : ℕ) → AreFixed case has others freqs → is_among others c ≡ false
    → Breaks kind place freqs (margin_of case kind (insert others place c)) (pos (freq_of case c k)) → breaks case kind (insert others place c) (indices_with case has c k) ≡ true
breaks_if case has kind others freqs place c k fixed apart broken = breaks_form case has kind others freqs place c k fixed apart ∙ lt-ltb _ _ broken

pub breaks_then : (case : Case) (has : Box) (kind : Kind) (others freqs : List ℕ) (place c k : ℕ) → AreFixed case has others freqs → is_among others c ≡ false
    → breaks case kind (insert others place c) (indices_with case has c k) ≡ true → Breaks kind place freqs (margin_of case kind (insert others place c)) (pos (freq_of case c k))
breaks_then case has kind others freqs place c k fixed apart broken = ltb-true _ _ (sym (breaks_form case has kind others freqs place c k fixed apart) ∙ broken)

some_or_target : (case : Case) (has : Box) (c : ℕ) (others : List ℕ) → list_all (λ o. is_some (only_index case has o)) others ≡ true
    → list_all (λ o. (o == c) || is_some (only_index case has o)) others ≡ true
some_or_target case has c [] all = refl
some_or_target case has c (o ∷ os) all =
    let parts = and_parts (is_some (only_index case has o)) _ all in
    and_from _ _ (or_right (o == c) (is_some (only_index case has o)) parts.0) (some_or_target case has c os parts.1)
  where
    or_right : (a b : Bool) → b ≡ true → (a || b) ≡ true
    or_right true b e = refl
    or_right false b e = e

-- an instance whose others are fixed rules out a range in which each index breaks it
pub ruled_out : (case : Case) (has : Box) (kind : Kind) (others freqs : List ℕ) (place c lo hi : ℕ) → is_instance case kind (insert others place c) ≡ true → AreFixed case has others freqs
    → ((k : ℕ) → k < count_of case c → between lo hi k ≡ true → breaks case kind (insert others place c) (indices_with case has c k) ≡ true)
    → is_ruled_out case has kind (insert others place c) c lo hi ≡ true
ruled_out case has kind others freqs place c lo hi good fixed broken =
    and_from _ _ (and_from _ _ good (all_insert (λ o. (o == c) || is_some (only_index case has o)) others place c (here (is_some (only_index case has c)))
    (some_or_target case has c others fixed.sole)))
    (each_below-from (count_of case c) (λ k. not (between lo hi k) || breaks case kind (insert others place c) (indices_with case has c k))
    (λ k known. implies (between lo hi k) _ (broken k known)))
  where
    here : (b : Bool) → ((c == c) || b) ≡ true
    here b = let e : (c == c) ≡ true = eq-eqb c c refl in rw e

-- the same for a range of one index
pub ruled_at : (case : Case) (has : Box) (kind : Kind) (roles : List ℕ) (c k : ℕ) → is_instance case kind roles ≡ true → list_all (λ o. (o == c) || is_some (only_index case has o)) roles ≡ true
    → breaks case kind roles (indices_with case has c k) ≡ true → is_ruled_out case has kind roles c k k ≡ true
ruled_at case has kind roles c k good sole broken =
    and_from _ _ (and_from _ _ good sole) (each_below-from (count_of case c) (λ j. not (between k k j) || breaks case kind roles (indices_with case has c j)) (λ j low. at_j j (cases_eq j k)))
  where
    at_j : (j : ℕ) → (j ≡ k) ⊎ (j ≡ k → ⊥) → (not (between k k j) || breaks case kind roles (indices_with case has c j)) ≡ true
    at_j j (inl e) = implies (between k k j) _ (λ inside. ap (λ x. breaks case kind roles (indices_with case has c x)) e ∙ broken)
    at_j j (inr e) = let out : between k k j ≡ false = grind (arith, nat_tests) in rw out refl

-- what a range says of each of its indices
pub ruled_within : (case : Case) (has : Box) (kind : Kind) (roles : List ℕ) (c lo hi k : ℕ) → k < count_of case c → lo ≤ k → k ≤ hi → is_ruled_out case has kind roles c lo hi ≡ true
    → (is_instance case kind roles ≡ true) × (list_all (λ o. (o == c) || is_some (only_index case has o)) roles ≡ true) × (breaks case kind roles (indices_with case has c k) ≡ true)
ruled_within case has kind roles c lo hi k known from to out =
    let parts = and_parts (is_instance case kind roles && list_all (λ o. (o == c) || is_some (only_index case has o)) roles) _ out in
    let front = and_parts (is_instance case kind roles) _ parts.0 in
    let at : (not (between lo hi k) || breaks case kind roles (indices_with case has c k)) ≡ true =
    each_below-at (count_of case c) (λ j. not (between lo hi j) || breaks case kind roles (indices_with case has c j)) k parts.1 known in
    let self : between lo hi k ≡ true = grind (arith, nat_tests) in
    (front.0, front.1, implied (between lo hi k) _ self at)
  where
    implied : (a b : Bool) → a ≡ true → (not a || b) ≡ true → b ≡ true
    implied true b e h = h
    implied false b e h = absurd (true≢false (sym e))

-- nothing is left to do where no index that is left breaks it
pub clear_unbroken : (case : Case) (has : Box) (kind : Kind) (roles : List ℕ) (c : ℕ) → ((k : ℕ) → has c k ≡ true → k < count_of case c)
    → ((k : ℕ) → has c k ≡ true → is_instance case kind roles ≡ true → list_all (λ o. (o == c) || is_some (only_index case has o)) roles ≡ true
    → breaks case kind roles (indices_with case has c k) ≡ true → ⊥)
    → IsClear case has kind roles c
clear_unbroken case has kind roles c sized none = record {
  each = λ k here. elim (cases_Bool (is_ruled_out case has kind roles c k k)) [
    | inr out ↦ out
    | inl out ↦ let parts = ruled_within case has kind roles c k k k (sized k here) (omega arith) (omega arith) out in absurd (none k here parts.0 parts.1 parts.2)
  ];
}
