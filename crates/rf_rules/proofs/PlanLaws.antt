-- Lemmas on plans, and on whether one of all lists of carriers passes.
use Rattle.std.proofs.Common.{◌≡◌, ◌≢◌, ◌<◌, ◌↔◌, ℕ, zero, suc, Bool, true, false, ◌&&◌, List, [], ◌∷◌, ◌++◌, length, refl, ap, sym, ◌∙◌, arith, inl, inr, All, not, Option, Some, None}
use Rattle.std.proofs.Common.{slice_get, slice_index, true≢false, append-nil, append_assoc}
use Rattle.std.specs.Bool.{IsTrue}
use Rattle.std.specs.List.{list_all, list_any}
use Rattle.std.proofs.lemmas.Bool.{cases_Bool, cases_lt}
use Rattle.std.proofs.lemmas.List.Elements.{All-cons, All-contains}
use Rattle.std.proofs.lemmas.List.Folds.{list_all-append}
use Rattle.std.proofs.lemmas.List.Sums.{AllPass-from_list_all}
use Rattle.rf_terms.proofs.KindLaws.{kind_listed}
use Rattle.rf_terms.specs.Kinds.{kinds, roles_of}
use Rattle.rf_terms.specs.declared.kind.Kind.{Kind}
use Rattle.std.specs.Option.{option_and_then, option_map_or}
use Rattle.std.proofs.lemmas.Option.{slice_get_past}
use Rattle.rf_profiles.specs.Channels.{channels}
use Rattle.rf_profiles.specs.declared.profile.Profile.{Profile}
use Rattle.rf_show.specs.Show.{ShowData}
use Rattle.rf_show.specs.Query.{is_allowed, may_take, profile_of}
use Rattle.rf_show.specs.Case.{channels_of}
use Rattle.rf_rules.specs.Tuples.{tuples, upto}
use Rattle.rf_rules.specs.Instances.{is_broken, is_candidate}
use Rattle.rf_rules.specs.Plans.{IsPlan, breaks_from, has_broken, planned}
use Rattle.rf_rules.proofs.TupleLaws.{upto-suc, upto-zero, any-first, any-empty, any-none, any-out, each-no, get_or-upto, length-upto}
use Rattle.rf_rules.proofs.SearchLemmas.{broken-no_candidate}
use mathlib.Core.Bool.{and-true}
use Rattle.rf_base.proofs.ListLaws.{any_same, any_never}

-- ---- all of the numbers below n

pub each-zero : (q : ℕ → Bool) → list_all q (upto 0) ≡ true
each-zero q = ap (list_all q) upto-zero

each-suc : (q : ℕ → Bool) (i : ℕ) → list_all q (upto (suc i)) ≡ (list_all q (upto i) && q i)
each-suc q i = ap (list_all q) (upto-suc i) ∙ list_all-append q (upto i) (i ∷ []) ∙ ap (λ b. list_all q (upto i) && b) (and-true (q i))

pub each-more : (q : ℕ → Bool) (i j : ℕ) → j ≡ suc i → list_all q (upto i) ≡ true → q i ≡ true → list_all q (upto j) ≡ true
each-more q i j e h p = rw e (each-suc q i ∙ rw (h, p) refl)

pub each-at : (q : ℕ → Bool) (n i : ℕ) → list_all q (upto n) ≡ true → i < n → q i ≡ true
each-at q n i h low = rw (get_or-upto n i 0 low) at (AllPass-from_list_all q (upto n) h i 0 (omega (arith, length-upto n, low)))

pub each-not : (q : ℕ → Bool) (n i : ℕ) → i < n → q i ≡ false → list_all q (upto n) ≡ false
each-not q n i h p =
    elim (cases_Bool (list_all q (upto n))) [
      | inl all ↦ absurd (true≢false (sym (each-at q n i all h) ∙ p))
      | inr none ↦ none
    ]

each-all : (q : ℕ → Bool) (n : ℕ) → ((i : ℕ) → i < n → q i ≡ true) → list_all q (upto n) ≡ true
each-all q zero h = each-zero q
each-all q (suc n) h = each-more q n (suc n) refl (each-all q n (λ i low. h i (omega (arith, low)))) (h n (omega arith))

-- ---- one of all lists

-- where none of the lists passes, a list of carriers doesn't
list-out : (p : List ℕ → Bool) (n : ℕ) (t : List ℕ) → All (λ c. c < n) t → list_any p (tuples (length t) (upto n)) ≡ false → p t ≡ false
list-out p n [] below h = sym (any-empty p (upto n)) ∙ h
list-out p n (c ∷ t) below h =
    list-out (λ u. p (c ∷ u)) n t (λ k d low. below (suc k) d (omega (arith, low)))
    (any-out (λ x. list_any (λ u. p (x ∷ u)) (tuples (length t) (upto n))) n c (sym (any-first p (length t) (upto n)) ∙ h) (below 0 c (omega arith)))

list-none : (p : List ℕ → Bool) (n k : ℕ) → ((t : List ℕ) → length t ≡ k → All (λ c. c < n) t → p t ≡ false) → list_any p (tuples k (upto n)) ≡ false
list-none p n zero h = any-empty p (upto n) ∙ h [] refl (λ k d low. absurd (omega (arith, low)))
list-none p n (suc k) h =
    any-first p k (upto n) ∙ any-none (λ c. list_any (λ u. p (c ∷ u)) (tuples k (upto n))) n
    (λ c low. list-none (λ u. p (c ∷ u)) n k (λ t e below. h (c ∷ t) (ap suc e) (All-cons (λ d. d < n) c t low below)))

-- ---- broken instances

-- by the next role's carrier
pub breaks-next : (show : ShowData) (ats : List (Option ℕ)) (kind : Kind) (t : List ℕ) (k j : ℕ) → suc k ≡ j →
    list_any (λ c. breaks_from show ats kind (t ++ c ∷ []) k) (upto (length ats)) ≡ breaks_from show ats kind t j
breaks-next show ats kind t k j e =
    let xs = upto (length ats) in
    any_same (λ c. breaks_from show ats kind (t ++ c ∷ []) k) (λ c. list_any (λ u. is_broken show ats kind (t ++ c ∷ u)) (tuples k xs)) xs
    (λ c. any_same (λ u. is_broken show ats kind ((t ++ c ∷ []) ++ u)) (λ u. is_broken show ats kind (t ++ c ∷ u)) (tuples k xs) (λ u. ap (is_broken show ats kind) (append_assoc t (c ∷ []) u)))
    ∙ sym (any-first (λ u. is_broken show ats kind (t ++ u)) k xs)
    ∙ ap (breaks_from show ats kind t) e

pub breaks-last : (show : ShowData) (ats : List (Option ℕ)) (kind : Kind) (t : List ℕ) → breaks_from show ats kind t 0 ≡ is_broken show ats kind t
breaks-last show ats kind t = any-empty (λ u. is_broken show ats kind (t ++ u)) (upto (length ats)) ∙ ap (is_broken show ats kind) (append-nil t)

pub breaks-hopeless : (show : ShowData) (ats : List (Option ℕ)) (kind : Kind) (t : List ℕ) (c k : ℕ) → ((u : List ℕ) → is_candidate show ats kind (t ++ c ∷ u) ≡ false) →
    breaks_from show ats kind (t ++ c ∷ []) k ≡ false
breaks-hopeless show ats kind t c k h =
    any_never (λ u. is_broken show ats kind ((t ++ c ∷ []) ++ u)) (tuples k (upto (length ats)))
    (λ u. ap (is_broken show ats kind) (append_assoc t (c ∷ []) u) ∙ broken-no_candidate show ats kind (t ++ c ∷ u) (h u))

-- none of the kinds is none of each
pub kinds-out : (q : Kind → Bool) (kind : Kind) → list_any q kinds ≡ false → q kind ≡ false
kinds-out q kind h = All-contains (λ other. q other ≡ false) kinds kind (each-no q kinds h) (kind_listed kind)

pub kinds-none : (q : Kind → Bool) (some : List Kind) → ((kind : Kind) → q kind ≡ false) → list_any q some ≡ false
kinds-none q some h = any_never q some h

pub broken-out : (show : ShowData) (ats : List (Option ℕ)) (kind : Kind) (t : List ℕ) → length t ≡ roles_of kind → All (λ c. c < length ats) t → has_broken show ats kind ≡ false →
    is_broken show ats kind t ≡ false
broken-out show ats kind t e below h = list-out (is_broken show ats kind) (length ats) t below (ap (λ k. list_any (is_broken show ats kind) (tuples k (upto (length ats)))) e ∙ h)

pub broken-none : (show : ShowData) (ats : List (Option ℕ)) (kind : Kind) →
    ((t : List ℕ) → length t ≡ roles_of kind → All (λ c. c < length ats) t → is_broken show ats kind t ≡ false) → has_broken show ats kind ≡ false
broken-none show ats kind h = list-none (is_broken show ats kind) (length ats) (roles_of kind) h

-- ---- plans

-- a channel that is allowed is there
known-at : (of : Option Profile) (f : ℕ → Bool) (k : ℕ) → option_map_or f (option_and_then (λ (p : Profile). slice_get (channels p.channels) k) of) false ≡ true →
    k < length (option_map_or (λ (p : Profile). channels p.channels) of [])
known-at None f k h = absurd (true≢false (sym h))
known-at (Some p) f k h =
    elim (cases_lt k (length (channels p.channels))) [
      | inl low ↦ low
      | inr high ↦
          let e : slice_get (channels p.channels) k ≡ None = slice_get_past (channels p.channels) k high in
          absurd (true≢false (sym h ∙ ap (λ o. option_map_or f o false) e))
    ]

allowed-known : (show : ShowData) (c k : ℕ) → is_allowed show c k ≡ true → k < length (channels_of show c)
allowed-known show c k h = known-at (profile_of show c) (λ f. may_take show c f) k h

pub plan-short : (show : ShowData) (plan : List ℕ) → (length plan ≢ length show.carriers) → IsTrue false ↔ IsPlan show plan
plan-short show plan h = ((λ no. absurd (true≢false (sym no))), (λ p. absurd (h p.full)))

pub plan-forbidden : (show : ShowData) (plan : List ℕ) → list_all (λ c. is_allowed show c (slice_index plan c)) (upto (length plan)) ≡ false → IsTrue false ↔ IsPlan show plan
plan-forbidden show plan h =
    ((λ no. absurd (true≢false (sym no))), (λ p. absurd (true≢false (sym (each-all (λ c. is_allowed show c (slice_index plan c)) (length plan) p.allowed) ∙ h))))

pub plan-judged : (show : ShowData) (plan : List ℕ) (broken : Bool) → length plan ≡ length show.carriers →
    list_all (λ c. is_allowed show c (slice_index plan c)) (upto (length plan)) ≡ true → broken ≡ list_any (has_broken show (planned show plan)) kinds → IsTrue (not broken) ↔
    IsPlan show plan
plan-judged show plan true full allowed e =
    ((λ no. absurd (true≢false (sym no))), (λ p. absurd (true≢false (e ∙ kinds-none (has_broken show (planned show plan)) kinds (λ kind. broken-none show (planned show plan) kind (p.kept kind))))))
plan-judged show plan false full allowed e =
    let each : (c : ℕ) → c < length plan → is_allowed show c (slice_index plan c) ≡ true = λ c low. each-at (λ d. is_allowed show d (slice_index plan d)) (length plan) c allowed low in (
      (λ _. record {
        full = full;
        known = λ c low. allowed-known show c (slice_index plan c) (each c low);
        allowed = each;
        kept = λ kind t n below. broken-out show (planned show plan) kind t n below (kinds-out (has_broken show (planned show plan)) kind (sym e));
      }),
      (λ _. refl),
    )
