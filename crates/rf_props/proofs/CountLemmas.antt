-- The numbers of channels of a case, and lines that are added to others.
use Rattle.std.proofs.Common.{◌≡◌, ◌∙◌, refl, ℕ, zero, suc, ◌+◌, ◌<◌, ◌≤◌, List, [], ◌∷◌, ◌++◌, length, map, take, get_or, sym, ap, subst, arith, inl, inr, length-append}
use Rattle.std.specs.Prelude.{Result, Ok, Err, OnOk, OnErr, nat_le, true}
use Rattle.std.specs.List.Sorted.{IsStrictlyIncreasing}
use Rattle.std.proofs.lemmas.List.{take_more, get_or-map, length-map, map-append, get_or_append_left, get_or-append-add, take_all}
use Rattle.std.proofs.lemmas.List.Elements.{Contains-push_cases, Contains-get_or}
use Rattle.std.proofs.lemmas.Bool.{cases_lt, and_from, le-leb}
use Rattle.std.specs.List.{list_all}
use Rattle.std.proofs.lemmas.List.Folds.{list_all-append}
use Rattle.rf_domain.specs.declared.limits.TheConstants.{CARRIER_LIMIT, INDEX_LIMIT}
use Rattle.rf_domain.specs.Sets.{AreCounts}
use Rattle.rf_log.specs.declared.cond.Cond.{Cond}
use Rattle.rf_log.specs.Case.{Case, Carrier, count_of, counts_of, no_carrier}
use Rattle.rf_log.specs.Hints.{Line}
use Rattle.rf_propagate.specs.Laws.{IsAbove, AreInRange, AreKnown, numbers_of}
use Rattle.rf_log.proofs.CaseLaws.{counts_length}

pub count_at : (case : Case) (c d : ℕ) → c < length case.carriers → get_or (counts_of case) c d ≡ count_of case c
count_at case c d known = get_or-map (λ (x : Carrier). length x.freqs) case.carriers c no_carrier d known

-- the same for a number that no carrier has
pub count_any : (case : Case) (c : ℕ) → get_or (counts_of case) c 0 ≡ count_of case c
count_any case c = at case.carriers c
  where
    at : (cs : List Carrier) (c : ℕ) → get_or (map (λ (x : Carrier). length x.freqs) cs) c 0 ≡ length (get_or cs c no_carrier).freqs
    at [] c = refl
    at (x ∷ xs) zero = refl
    at (x ∷ xs) (suc c) = at xs c

pub counts_more : (case : Case) (c n : ℕ) (xs : List ℕ) → c < length case.carriers → xs ≡ take c (counts_of case) → n ≡ count_of case c → xs ++ n ∷ [] ≡ take (c + 1) (counts_of case)
counts_more case c n xs known so e =
    ap (λ ys. ys ++ n ∷ []) so ∙ ap (λ m. take c (counts_of case) ++ m ∷ []) (e ∙ sym (count_at case c 0 known))
    ∙ sym (take_more (counts_of case) c 0 (omega (arith, counts_length case)))

pub known_more : (case : Case) (lines : List Line) (number : ℕ) (conds : List Cond) → AreKnown case lines → AreInRange case conds
    → AreKnown case (lines ++ record { number = number; conds = conds } ∷ [])
known_more case lines number conds known more = record {
  each = λ line among. elim (Contains-push_cases lines (record { number = number; conds = conds }) line among) [
    | inl earlier ↦ known.each line earlier
    | inr last ↦ subst (λ (x : Line). AreInRange case x.conds) last more
  ];
}

rising_push : (xs : List ℕ) (n : ℕ) → IsStrictlyIncreasing xs → ((j : ℕ) → j < length xs → get_or xs j 0 < n) → IsStrictlyIncreasing (xs ++ n ∷ [])
rising_push xs n rising above k known =
    elim (cases_lt (k + 1) (length xs)) [
      | inl earlier ↦
          let here : get_or xs k 0 < get_or xs (k + 1) 0 = rising k earlier in
          rw (get_or_append_left xs (n ∷ []) 0 k (omega arith), get_or_append_left xs (n ∷ []) 0 (k + 1) earlier) here
      | inr later ↦
          let size : length (xs ++ n ∷ []) ≡ length xs + 1 = length-append xs (n ∷ []) in
          let last' : k + 1 ≡ length xs + 0 = omega arith in
          let at_last : get_or (xs ++ n ∷ []) (k + 1) 0 ≡ n = ap (λ j. get_or (xs ++ n ∷ []) j 0) last' ∙ get_or-append-add xs (n ∷ []) 0 0 in
          let here : get_or xs k 0 < n = above k (omega arith) in
          rw (get_or_append_left xs (n ∷ []) 0 k (omega arith), at_last) here
    ]

below_last : (lines : List Line) (number : ℕ) → IsAbove number lines → (j : ℕ) → j < length (numbers_of lines) → get_or (numbers_of lines) j 0 < number
below_last lines number above j low =
    let known : j < length lines = omega (arith, length-map lines (λ (l : Line). l.number)) in
    let none : Line = record { number = 0; conds = [] } in
    let at : get_or (numbers_of lines) j 0 ≡ (get_or lines j none).number = get_or-map (λ (l : Line). l.number) lines j none 0 known in
    rw at (above.each (get_or lines j none) (Contains-get_or lines j none known))

pub rising_more : (lines : List Line) (number : ℕ) (conds : List Cond) → IsStrictlyIncreasing (numbers_of lines) → IsAbove number lines
    → IsStrictlyIncreasing (numbers_of (lines ++ record { number = number; conds = conds } ∷ []))
rising_more lines number conds rising above =
    let last : Line = record { number = number; conds = conds } in
    subst IsStrictlyIncreasing (sym (map-append (λ (l : Line). l.number) lines (last ∷ []))) (rising_push (numbers_of lines) number rising (λ j low. below_last lines number above j low))

-- after a push the lines are as before or one more
pub kept_push : {A E : Type 0} (case : Case) (lines now : List Line) (number : ℕ) (conds : List Cond) → IsStrictlyIncreasing (numbers_of lines)
    → AreKnown case lines → IsAbove number lines → AreInRange case conds
    → (r : Result A E) → OnOk r (now ≡ lines ++ record { number = number; conds = conds } ∷ []) → OnErr r (now ≡ lines)
    → IsStrictlyIncreasing (numbers_of now) × AreKnown case now
kept_push case lines now number conds rising known above more (Ok x) is none =
    (subst (λ ls. IsStrictlyIncreasing (numbers_of ls)) (sym is) (rising_more lines number conds rising above), subst (AreKnown case) (sym is) (known_more case lines number conds known more))
kept_push case lines now number conds rising known above more (Err x) none is =
    (subst (λ ls. IsStrictlyIncreasing (numbers_of ls)) (sym is) rising, subst (AreKnown case) (sym is) known)

-- the counts of the first so many carriers
pub record CountsUpTo (case : Case) (counts : List ℕ) (n : ℕ) : Type 0 where
  pub is : counts ≡ take n (counts_of case)
  pub small : list_all (λ m. nat_le m INDEX_LIMIT) counts ≡ true

pub upto_none : (case : Case) (counts : List ℕ) → counts ≡ [] → CountsUpTo case counts 0
upto_none case counts none = record { is = none; small = ap (list_all (λ m. nat_le m INDEX_LIMIT)) none }

pub upto_more : (case : Case) (c n : ℕ) (xs ys : List ℕ) → CountsUpTo case xs c → c < length case.carriers → n ≡ count_of case c → n ≤ INDEX_LIMIT → ys ≡ xs ++ n ∷ [] → CountsUpTo case ys (c + 1)
upto_more case c n xs ys so known e fits is = record {
  is = is ∙ counts_more case c n xs known so.is e;
  small = ap (list_all (λ m. nat_le m INDEX_LIMIT)) is ∙ list_all-append (λ m. nat_le m INDEX_LIMIT) xs (n ∷ []) ∙
      and_from _ _ so.small (and_from (nat_le n INDEX_LIMIT) true (le-leb n INDEX_LIMIT fits) refl);
}

pub upto_all : (case : Case) (xs : List ℕ) (n : ℕ) → CountsUpTo case xs n → length case.carriers ≤ n → xs ≡ counts_of case
upto_all case xs n so all = so.is ∙ take_all n (counts_of case) (omega (arith, counts_length case))

pub upto_counts : (case : Case) (xs : List ℕ) (n : ℕ) → CountsUpTo case xs n → length case.carriers ≤ n → length case.carriers ≤ CARRIER_LIMIT → AreCounts xs
upto_counts case xs n so all few = record { few = omega (arith, ap length (upto_all case xs n so all), counts_length case, few); small = so.small }
