-- What a rule and a ban take out of sets.
use Rattle.std.proofs.Common.{◌≡◌, ◌∙◌, ℕ, ◌+◌, ◌-◌, ◌<◌, ◌≤◌, ◌==◌, Bool, true, false, ◌&&◌, ◌||◌, ◌⊎◌, List, [], ◌∷◌, length, take, drop, get_or, refl, sym, ap, subst, inl, inr, arith}
use Rattle.std.proofs.Common.{All, insert, is_some, nat_le, true≢false, get_or-drop, length-drop}
use Rattle.std.specs.List.{list_all, remove}
use Rattle.std.proofs.lemmas.Bool.{cases_Bool, cases_lt, and_parts, false_from_ne_true}
use Rattle.std.proofs.lemmas.Bool.Decides.{nat_tests}
use Rattle.std.proofs.lemmas.List.{get_or_past, get_or_default}
use Rattle.rf_terms.specs.declared.kind.Kind.{Kind}
use Rattle.rf_log.specs.Case.{Case, count_of, counts_of, is_instance, is_among}
use Rattle.rf_log.specs.Box.{Box, between, only_index}
use Rattle.rf_log.specs.Hints.{is_ruled_out}
use Rattle.rf_propagate.specs.Applied.{IsRangeIn, AreRolesIn}
use Rattle.rf_props.specs.Sweeps.{AreFixed, AreBroken, IsHarmless, AreSingle, HaveMany}
use Rattle.rf_props.proofs.CountLemmas.{count_any}
use Rattle.rf_props.proofs.InsertLemmas.{all_in_insert, insert_remove, length_remove}
use Rattle.rf_props.proofs.InstanceLemmas.{breaks_if, breaks_then, ruled_out, ruled_within}
use Rattle.rf_props.proofs.StrikeLemmas.{apart_of}
use Rattle.rf_log.proofs.CaseLaws.{counts_length}

sole_others : (case : Case) (has : Box) (c : ℕ) (others : List ℕ) → is_among others c ≡ false → list_all (λ o. (o == c) || is_some (only_index case has o)) others ≡ true
    → list_all (λ o. is_some (only_index case has o)) others ≡ true
sole_others case has c [] apart all = refl
sole_others case has c (o ∷ os) apart all =
    let other : (o == c) ≡ false = grind (arith, nat_tests) in
    let rest : is_among os c ≡ false = grind (arith, nat_tests) in
    let parts = and_parts ((o == c) || is_some (only_index case has o)) _ all in
    let here : is_some (only_index case has o) ≡ true = ap (λ (b : Bool). b || is_some (only_index case has o)) (sym other) ∙ parts.0 in
    rw here (sole_others case has c os rest parts.1)

-- one of the others has not exactly one index
pub ruled_many : (case : Case) (has : Box) (kind : Kind) (others : List ℕ) (place c lo hi : ℕ) → is_instance case kind (insert others place c) ≡ true → HaveMany case has others
    → lo ≤ hi → hi < count_of case c → is_ruled_out case has kind (insert others place c) c lo hi ≡ false
ruled_many case has kind others place c lo hi good many ordered known = false_from_ne_true _ (λ out.
    let parts = ruled_within case has kind (insert others place c) c lo hi lo (omega arith) (omega arith) ordered out in
    let sole = all_in_insert (λ o. (o == c) || is_some (only_index case has o)) others place c parts.1 in
    true≢false (sym (sole_others case has c others (apart_of case kind others place c good) sole.1) ∙ many.many))

-- no index breaks it
pub ruled_none : (case : Case) (has : Box) (kind : Kind) (others freqs : List ℕ) (place c lo hi : ℕ) → is_instance case kind (insert others place c) ≡ true → AreFixed case has others freqs
    → IsHarmless case kind place (insert others place c) freqs c → lo ≤ hi → hi < count_of case c → is_ruled_out case has kind (insert others place c) c lo hi ≡ false
ruled_none case has kind others freqs place c lo hi good fixed none ordered known = false_from_ne_true _ (λ out.
    let low : lo < count_of case c = omega arith in
    let parts = ruled_within case has kind (insert others place c) c lo hi lo low (omega arith) ordered out in
    none.none lo low (breaks_then case has kind others freqs place c lo fixed (apart_of case kind others place c good) parts.2))

-- just the indices of a range break it
pub ruled_range : (case : Case) (has : Box) (kind : Kind) (others freqs : List ℕ) (place c first last lo hi : ℕ) → is_instance case kind (insert others place c) ≡ true → AreFixed case has others freqs
    → AreBroken case kind place (insert others place c) freqs c first last → lo ≤ hi → hi < count_of case c
    → (nat_le first lo && nat_le hi last) ≡ is_ruled_out case has kind (insert others place c) c lo hi
ruled_range case has kind others freqs place c first last lo hi good fixed broken ordered known =
    by (cases_Bool (nat_le first lo)) (cases_Bool (nat_le hi last))
  where
    apart : is_among others c ≡ false
    apart = apart_of case kind others place c good

    outside : (k : ℕ) → lo ≤ k → k ≤ hi → between first last k ≡ false → is_ruled_out case has kind (insert others place c) c lo hi ≡ false
    outside k from to off = false_from_ne_true _ (λ out.
        let low : k < count_of case c = omega arith in
        let parts = ruled_within case has kind (insert others place c) c lo hi k low from to out in
        true≢false (sym (broken.all k low (breaks_then case has kind others freqs place c k fixed apart parts.2)) ∙ off))

    within : nat_le first lo ≡ true → nat_le hi last ≡ true → (k : ℕ) → between lo hi k ≡ true → between first last k ≡ true
    within front back k inside = grind (arith, nat_tests)

    by : (nat_le first lo ≡ true) ⊎ (nat_le first lo ≡ false) → (nat_le hi last ≡ true) ⊎ (nat_le hi last ≡ false)
        → (nat_le first lo && nat_le hi last) ≡ is_ruled_out case has kind (insert others place c) c lo hi
    by (inl front) (inl back) =
        let out : is_ruled_out case has kind (insert others place c) c lo hi ≡ true =
        ruled_out case has kind others freqs place c lo hi good fixed (λ k small inside. breaks_if case has kind others freqs place c k fixed apart (broken.inside k (within front back k inside))) in
        rw (front, back, out)
    by (inl front) (inr back) =
        let off : between first last hi ≡ false = grind (arith, nat_tests) in
        let out = outside hi ordered (omega arith) off in
        rw (front, back, out)
    by (inr front) back =
        let off : between first last lo ≡ false = grind (arith, nat_tests) in
        let out = outside lo (omega arith) ordered off in
        rw (front, out)

-- ---- the same, as the code has the others: in an array, without the role at the place

module _ (case : Case) (has : Box) (kind : Kind) (roles all : List ℕ) where
  abbrev front : List ℕ
  front = take (length roles - 1) all

  whole : (place : ℕ) → place < length roles → insert (remove roles place) place (get_or roles place 0) ≡ roles
  whole place low = insert_remove roles place 0 low

  good_whole : (place : ℕ) → place < length roles → is_instance case kind roles ≡ true → is_instance case kind (insert (remove roles place) place (get_or roles place 0)) ≡ true
  good_whole place low good = ap (is_instance case kind) (whole place low) ∙ good

  fixed_front : (freqs : List ℕ) (place : ℕ) → place < length roles → front ≡ remove roles place → AreSingle case has front (take (length front) freqs)
      → AreFixed case has (remove roles place) (take (length roles - 1) freqs)
  fixed_front freqs place low is single =
      let size : length front ≡ length roles - 1 = omega (arith, ap length is, length_remove roles place low) in
      subst (λ (n : ℕ). AreFixed case has (remove roles place) (take n freqs)) size
      (subst (λ (os : List ℕ). AreFixed case has os (take (length front) freqs)) is single.fixed)

  known_in : (c lo hi : ℕ) → IsRangeIn case c lo hi → hi < count_of case c
  known_in c lo hi range = omega (arith, range.known, count_any case c)

  pub by_many : (place lo hi : ℕ) → place < length roles → front ≡ remove roles place → is_instance case kind roles ≡ true → HaveMany case has front
      → IsRangeIn case (get_or roles place 0) lo hi → false ≡ is_ruled_out case has kind roles (get_or roles place 0) lo hi
  by_many place lo hi low is good many range =
      let c = get_or roles place 0 in
      sym (subst (λ (rs : List ℕ). is_ruled_out case has kind rs c lo hi ≡ false) (whole place low)
      (ruled_many case has kind (remove roles place) place c lo hi (good_whole place low good) (subst (HaveMany case has) is many) range.ordered (known_in c lo hi range)))

  pub by_none : (freqs : List ℕ) (place lo hi : ℕ) → place < length roles → front ≡ remove roles place → is_instance case kind roles ≡ true
      → AreSingle case has front (take (length front) freqs) → IsHarmless case kind place roles (take (length roles - 1) freqs) (get_or roles place 0)
      → IsRangeIn case (get_or roles place 0) lo hi → false ≡ is_ruled_out case has kind roles (get_or roles place 0) lo hi
  by_none freqs place lo hi low is good single none range =
      let c = get_or roles place 0 in
      sym (subst (λ (rs : List ℕ). is_ruled_out case has kind rs c lo hi ≡ false) (whole place low)
      (ruled_none case has kind (remove roles place) (take (length roles - 1) freqs) place c lo hi (good_whole place low good) (fixed_front freqs place low is single)
      (subst (λ (rs : List ℕ). IsHarmless case kind place rs (take (length roles - 1) freqs) c) (sym (whole place low)) none) range.ordered (known_in c lo hi range)))

  pub by_range : (freqs : List ℕ) (place first last lo hi : ℕ) → place < length roles → front ≡ remove roles place → is_instance case kind roles ≡ true
      → AreSingle case has front (take (length front) freqs) → AreBroken case kind place roles (take (length roles - 1) freqs) (get_or roles place 0) first last
      → IsRangeIn case (get_or roles place 0) lo hi → (nat_le first lo && nat_le hi last) ≡ is_ruled_out case has kind roles (get_or roles place 0) lo hi
  by_range freqs place first last lo hi low is good single broken range =
      let c = get_or roles place 0 in
      subst (λ (rs : List ℕ). (nat_le first lo && nat_le hi last) ≡ is_ruled_out case has kind rs c lo hi) (whole place low)
      (ruled_range case has kind (remove roles place) (take (length roles - 1) freqs) place c first last lo hi (good_whole place low good) (fixed_front freqs place low is single)
      (subst (λ (rs : List ℕ). AreBroken case kind place rs (take (length roles - 1) freqs) c first last) (sym (whole place low)) broken) range.ordered (known_in c lo hi range))

pub off_and : (first lo : ℕ) (b : Bool) → lo < first → nat_le first lo ≡ (nat_le first lo && b)
off_and first lo b over =
    let off : nat_le first lo ≡ false = grind (arith, nat_tests) in
    rw off

-- ---- roles

-- the carrier of a range is one of the case
pub range_carrier : (case : Case) (c lo hi : ℕ) → IsRangeIn case c lo hi → c < length case.carriers
range_carrier case c lo hi range = elim (cases_lt c (length case.carriers)) [
  | inl low ↦ low
  | inr past ↦ absurd (omega (arith, range.known, get_or_past (counts_of case) c 0 (omega (arith, counts_length case))))
]

-- the roles up to a count are carriers, and the rest are 0
pub roles_in : (case : Case) (count target : ℕ) (all : List ℕ) → target < count → ((k : ℕ) → k < length (take count all) → get_or (take count all) k 0 < length case.carriers)
    → ((k : ℕ) → k < length (drop count all) → get_or (drop count all) k 0 ≡ 0) → AreRolesIn case count all target
roles_in case count target all place known rest = record {
  known = λ k d low. subst (λ (x : ℕ). x < length case.carriers) (get_or_default (take count all) k 0 d low) (known k low);
  place = place;
  rest = λ i over. elim (cases_lt i (length all)) [
    | inr past ↦ get_or_past all i 0 past
    | inl low ↦
        let e : count + (i - count) ≡ i = omega arith in
        let at : get_or (drop count all) (i - count) 0 ≡ get_or all (count + (i - count)) 0 = get_or-drop count all (i - count) 0 in
        subst (λ (j : ℕ). get_or all j 0 ≡ 0) e (sym at ∙ rest (i - count) (omega (arith, length-drop count all)))
  ];
}

pub carriers_in : (case : Case) (count target : ℕ) (all : List ℕ) → AreRolesIn case count all target → (k : ℕ) → k < length (take count all) → get_or (take count all) k 0 < length case.carriers
carriers_in case count target all roles k low = roles.known k 0 low

pub rest_zero : (case : Case) (count target : ℕ) (all : List ℕ) → AreRolesIn case count all target → (k : ℕ) → k < length (drop count all) → get_or (drop count all) k 0 ≡ 0
rest_zero case count target all roles k low = get_or-drop count all k 0 ∙ roles.rest (count + k) (omega arith)

-- the roles as carriers of the problem
pub known_roles : (case : Case) (n count target : ℕ) (all four_of : List ℕ) → length case.carriers ≡ n → four_of ≡ all → AreRolesIn case count all target → All (λ c. c < n) (take count four_of)
known_roles case n count target all four_of size is roles =
    subst (λ (xs : List ℕ). All (λ c. c < n) (take count xs)) (sym is) (subst (λ (m : ℕ). All (λ c. c < m) (take count all)) size roles.known)

-- four elements make the list
pub four : (xs : List ℕ) → length xs ≡ 4 → get_or xs 0 0 ∷ get_or xs 1 0 ∷ get_or xs 2 0 ∷ get_or xs 3 0 ∷ [] ≡ xs
four (a ∷ b ∷ c ∷ d ∷ []) size = refl
four [] size = absurd (omega arith)
four (a ∷ []) size = absurd (omega arith)
four (a ∷ b ∷ []) size = absurd (omega arith)
four (a ∷ b ∷ c ∷ []) size = absurd (omega arith)
four (a ∷ b ∷ c ∷ d ∷ e ∷ xs) size = absurd (omega arith)
