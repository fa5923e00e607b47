-- Hints that are applied in order until a set is empty.
use Rattle.std.proofs.Common.{◌≡◌, ℕ, zero, suc, ◌+◌, ◌<◌, ◌≤◌, ◌==◌, List, [], ◌∷◌, ◌++◌, length, take, get_or, Bool, true, false, not, ◌&&◌, ◌||◌, refl, sym, ◌∙◌, ap, subst, arith, inl}
use Rattle.std.proofs.Common.{inr, Option, Some, None, All, nat_lt, slice_index_or, true≢false}
use Rattle.std.specs.List.{list_all}
use Rattle.std.proofs.lemmas.List.{take_more, length-map}
use Rattle.std.proofs.lemmas.List.Elements.{All-push}
use Rattle.std.proofs.lemmas.Bool.{cases_Bool, cases_lt, cases_eq, not_from_false}
use Rattle.std.proofs.Math.Path.{fun_ext}
use mathlib.Core.Bool.{and-true, and_assoc, not-not}
use Rattle.rf_log.specs.declared.cond.Cond.{Cond}
use Rattle.rf_log.specs.declared.hint.Hint.{Hint}
use Rattle.rf_log.specs.Case.{Case, counts_of, count_of}
use Rattle.rf_log.specs.Box.{Box, each_below, has_none, between, is_met, is_met_by, box_of, is_dead}
use Rattle.rf_log.specs.Hints.{effect_of, after_hints_of, is_dead_after}
use Rattle.rf_domain.specs.Indices.{outside, HasNoneFrom}
use Rattle.rf_domain.specs.Sets as sets
use Rattle.rf_propagate.specs.Applied.{IsHintIn}
use Rattle.rf_search.specs.Replays.{IsNotReplayed}
use Rattle.rf_search.proofs.WholeTrail.{after_push}
use Rattle.rf_search.proofs.Narrow.{Lives}
use Rattle.rf_search.proofs.LineValid.{dead_from}
use Rattle.rf_log.proofs.CaseLaws.{counts_length}
use Rattle.rf_domain.proofs.SetsLaws.{size_get}
use Rattle.rf_base.proofs.NumberLaws.{eq_swap}
use Rattle.rf_base.proofs.ListLaws.{flag_low}
use Rattle.rf_log.proofs.BoxLaws.{each_below-at, each_below-from}
use Rattle.rf_propagate.proofs.LineLaws.{size_is}

-- ---- the box of conditions

all_last : {A : Type 0} (p : A → Bool) (xs : List A) (x : A) → list_all p (xs ++ x ∷ []) ≡ (list_all p xs && p x)
all_last p [] x = and-true (p x)
all_last p (y ∷ ys) x = ap (λ t. p y && t) (all_last p ys x) ∙ sym (and_assoc (p y) (list_all p ys) (p x))

box_more : (case : Case) (conds : List Cond) (cond : Cond) (c k : ℕ) → box_of case (conds ++ cond ∷ []) c k ≡ (box_of case conds c k && is_met_by c k cond)
box_more case conds cond c k = ap (λ t. nat_lt k (count_of case c) && t) (all_last (is_met_by c k) conds cond) ∙
    sym (and_assoc (nat_lt k (count_of case c)) (list_all (is_met_by c k) conds) (is_met_by c k cond))

kept : (b same gone met : Bool) → gone ≡ not met → (b && not (same && gone)) ≡ (b && (not same || met))
kept false same gone met is = refl
kept true false gone met is = refl
kept true true gone true is = rw is refl
kept true true gone false is = rw is refl

-- the indices that do not meet one condition more are gone
narrow : (case : Case) (conds : List Cond) (cond : Cond) (old new : Box) (gone : ℕ → Bool) → ((k : ℕ) → gone k ≡ not (is_met cond k)) → old ≡ box_of case conds
    → new ≡ sets.without old cond.carrier gone → new ≡ box_of case (conds ++ cond ∷ [])
narrow case conds cond old new gone away is cut = cut ∙ fun_ext λ c. fun_ext λ k.
    kept (old c k) (c == cond.carrier) (gone k) (is_met cond k) (away k)
    ∙ ap (λ t. old c k && (not t || is_met cond k)) (eq_swap c cond.carrier)
    ∙ ap (λ (f : Box). f c k && is_met_by c k cond) is
    ∙ sym (box_more case conds cond c k)

pub narrow_in : (case : Case) (conds : List Cond) (cond : Cond) (old new : Box) → cond.inside ≡ true → old ≡ box_of case conds
    → new ≡ sets.without old cond.carrier (outside cond.lo cond.hi) → new ≡ box_of case (conds ++ cond ∷ [])
narrow_in case conds cond old new in_ = narrow case conds cond old new (outside cond.lo cond.hi) (λ k. rw in_ refl)

pub narrow_out : (case : Case) (conds : List Cond) (cond : Cond) (old new : Box) → cond.inside ≡ false → old ≡ box_of case conds
    → new ≡ sets.without old cond.carrier (between cond.lo cond.hi) → new ≡ box_of case (conds ++ cond ∷ [])
narrow_out case conds cond old new out = narrow case conds cond old new (between cond.lo cond.hi) (λ k. rw out (sym (not-not (between cond.lo cond.hi k))))

-- ---- the hints

-- the first hints have an effect, and none of their first parts empties a set
pub record IsOnWay (case : Case) (found : ℕ → Option (List Cond)) (b : Box) (hints : List Hint) (now : Box) (n : ℕ) : Type 0 where
  pub works : after_hints_of case found b (take n hints) ≡ Some now
  pub fit : All (IsHintIn case) (take n hints)
  pub living : (m : ℕ) → m < n → is_dead_after case (after_hints_of case found b (take m hints)) ≡ false

pub way_more : (case : Case) (found : ℕ → Option (List Cond)) (b : Box) (hints : List Hint) (now next : Box) (n : ℕ) (hint : Hint) → n < length hints
    → get_or hints n hint ≡ hint → IsOnWay case found b hints now n → is_dead case now ≡ false → effect_of case found now hint ≡ Some next → IsHintIn case hint
    → IsOnWay case found b hints next (n + 1)
way_more case found b hints now next n hint low is way living works fits =
    let one : take (n + 1) hints ≡ take n hints ++ hint ∷ [] = take_more hints n hint low ∙ ap (λ (h : Hint). take n hints ++ h ∷ []) is in
    record {
      works = ap (after_hints_of case found b) one ∙ after_push case found b now next (take n hints) hint way.works works;
      fit = subst (λ (hs : List Hint). All (IsHintIn case) hs) (sym one) (All-push (IsHintIn case) (take n hints) hint way.fit fits);
      living = λ m below. elim (cases_eq m n) [
        | inl last ↦ ap (λ j. is_dead_after case (after_hints_of case found b (take j hints))) last ∙ ap (is_dead_after case) way.works ∙ living
        | inr other ↦ way.living m (omega arith)
      ];
    }

after_stuck : (case : Case) (found : ℕ → Option (List Cond)) (b mid : Box) (hs rest : List Hint) (hint : Hint)
    → after_hints_of case found b hs ≡ Some mid → effect_of case found mid hint ≡ None → after_hints_of case found b (hs ++ hint ∷ rest) ≡ None
after_stuck case found b mid [] rest hint first stuck =
    let is : b ≡ mid = cc in
    let here : effect_of case found b hint ≡ None = subst (λ (x : Box). effect_of case found x hint ≡ None) (sym is) stuck in
    ap (λ (o : Option Box). elim o as (λ _. Option Box) [ None ↦ None | Some x ↦ after_hints_of case found x rest ]) here
after_stuck case found b mid (h ∷ hs) rest hint first stuck =
    let P : Option Box → Type 0 = λ o.
    (elim o as (λ _. Option Box) [ None ↦ None | Some x ↦ after_hints_of case found x hs ]) ≡ Some mid
    → (elim o as (λ _. Option Box) [ None ↦ None | Some x ↦ after_hints_of case found x (hs ++ hint ∷ rest) ]) ≡ None in
    (elim (effect_of case found b h) as P [
      | None ↦ λ e. refl
      | Some x ↦ λ e. after_stuck case found x mid hs rest hint e stuck
    ]) first

split_at : (hints : List Hint) (n m : ℕ) (hint : Hint) → n < m → m ≤ length hints → get_or hints n hint ≡ hint → (rest : List Hint) × (take m hints ≡ take n hints ++ hint ∷ rest)
split_at [] n m hint low within is = absurd (omega arith)
split_at (h ∷ hs) n zero hint low within is = absurd (omega arith)
split_at (h ∷ hs) zero (suc m) hint low within is = (take m hs, ap (λ x. x ∷ take m hs) is)
split_at (h ∷ hs) (suc n) (suc m) hint low within is =
    let r = split_at hs n m hint (omega arith) (omega arith) is in (r.0, ap (λ xs. h ∷ xs) r.1)

in_all : {A : Type 0} (P : A → Type 0) (xs ys : List A) (x : A) → All P (xs ++ x ∷ ys) → P x
in_all P [] ys x all = all 0 x (omega arith)
in_all P (y ∷ xs) ys x all = in_all P xs ys x (λ k d low. all (suc k) d (omega arith))

-- a hint has no effect
pub way_stuck : (case : Case) (found : ℕ → Option (List Cond)) (b : Box) (hints : List Hint) (now : Box) (n : ℕ) (hint : Hint) → n < length hints
    → get_or hints n hint ≡ hint → IsOnWay case found b hints now n → is_dead case now ≡ false → (IsHintIn case hint → effect_of case found now hint ≡ None)
    → IsNotReplayed case found b hints
way_stuck case found b hints now n hint low is way living stuck = record {
  none = λ m within fit dead. elim (cases_lt m n) [
    | inl below ↦ absurd (true≢false (sym dead ∙ way.living m below))
    | inr above ↦ elim (cases_eq m n) [
      | inl here ↦ absurd (true≢false (sym dead ∙ ap (λ j. is_dead_after case (after_hints_of case found b (take j hints))) here ∙ ap (is_dead_after case) way.works ∙ living))
      | inr past ↦
          let r = split_at hints n m hint (omega arith) within is in
          let fits = in_all (IsHintIn case) (take n hints) r.0 hint (subst (λ (hs : List Hint). All (IsHintIn case) hs) r.1 fit) in
          let none = after_stuck case found b now (take n hints) r.0 hint way.works (stuck fits) in
          absurd (true≢false (sym dead ∙ ap (λ hs. is_dead_after case (after_hints_of case found b hs)) r.1 ∙ ap (is_dead_after case) none))
    ]
  ];
}

-- ---- whether a set is empty

pub living_not_dead : (case : Case) (box : Box) → Lives case box → is_dead case box ≡ false
living_not_dead case box lives = elim (cases_Bool (is_dead case box)) [
  | inr living ↦ living
  | inl dead ↦
      let each : each_below (length case.carriers) (λ c. not (has_none case box c)) ≡ true =
      each_below-from (length case.carriers) (λ c. not (has_none case box c)) (λ c low. elim (cases_Bool (has_none case box c)) [
        | inr some ↦ not_from_false _ some
        | inl none ↦
            let r = lives.each c low in
            let gone : not (box c r.0) ≡ true = each_below-at (count_of case c) (λ k. not (box c k)) r.0 none r.1 in
            let clash : not true ≡ true = ap not (sym r.2) ∙ gone in
            absurd (true≢false (sym clash))
      ]) in
      absurd (true≢false (sym dead ∙ ap not each))
]

pub living_sets : (case : Case) (ss : List (List Bool)) → sets.sizes ss ≡ counts_of case → ((c : ℕ) → c < length ss → (k : ℕ) × (sets.has ss c k ≡ true)) → is_dead case (sets.has ss) ≡ false
living_sets case ss sized some = living_not_dead case (sets.has ss) (record {
  each = λ c low.
      let long : length ss ≡ length case.carriers = sym (length-map ss length) ∙ ap length sized ∙ counts_length case in
      let at = some c (omega (arith, low, long)) in
      let small : at.0 < sets.size_of (sets.sizes ss) c = subst (λ (n : ℕ). at.0 < n) (sym (size_get ss c)) (flag_low (slice_index_or ss c []) at.0 at.1) in
      (at.0, subst (λ (n : ℕ). at.0 < n) (ap (λ (ns : List ℕ). sets.size_of ns c) sized ∙ size_is case c) small, at.1);
})

pub dead_sets : (case : Case) (ss : List (List Bool)) (c : ℕ) → sets.sizes ss ≡ counts_of case → c < length ss → HasNoneFrom (slice_index_or ss c []) 0 → is_dead case (sets.has ss) ≡ true
dead_sets case ss c sized low none = dead_from case (sets.has ss) c (
  (let long : length ss ≡ length (counts_of case) = sym (length-map ss length) ∙ ap length sized in omega (arith, low, long)),
  λ k here. true≢false (sym here ∙ none.none k (omega arith)),
)

pub some_more : (ss : List (List Bool)) (c k : ℕ) → ((d : ℕ) → d < c → (j : ℕ) × (sets.has ss d j ≡ true)) → sets.has ss c k ≡ true → (d : ℕ) → d < c + 1 → (j : ℕ) × (sets.has ss d j ≡ true)
some_more ss c k before here d low = elim (cases_eq d c) [
  | inl last ↦ subst (λ (x : ℕ). (j : ℕ) × (sets.has ss x j ≡ true)) (sym last) (k, here)
  | inr other ↦ before d (omega arith)
]

pub element_at : {A : Type 0} (xs : List A) (n : ℕ) (d : A) → n < length xs → slice_index_or xs n (slice_index_or xs n d) ≡ slice_index_or xs n d
element_at [] n d low = absurd (omega arith)
element_at (x ∷ xs) zero d low = refl
element_at (x ∷ xs) (suc n) d low = element_at xs n d (omega arith)

pub box_none : (case : Case) (counts : List ℕ) → counts ≡ counts_of case → sets.full counts ≡ box_of case []
box_none case counts is = fun_ext λ c. fun_ext λ k.
    ap (λ (ns : List ℕ). nat_lt k (sets.size_of ns c)) is ∙ (ap (nat_lt k) (size_is case c) ∙ sym (and-true (nat_lt k (count_of case c))))
