-- What an instance whose other carriers are fixed takes out of its target's set.
use Rattle.std.proofs.Common.{◌≡◌, ◌∙◌, ◌<◌, ◌≤◌, ◌==◌, ℕ, zero, suc, ℤ, pos, ◌+ℤ◌, ◌*ℤ◌, unsigned_abs, List, [], ◌∷◌, length, map, get_or, set, take, Bool, true, false, not, ◌&&◌, refl}
use Rattle.std.proofs.Common.{sym, ap, subst, arith, inl, inr, Option, Some, None, is_some, nat_lt, nat_le, slice_index, if◌then◌else◌, eq-eqb, eqb-true, lt-ltb, ltb-true, leb-true, le-leb}
use Rattle.std.proofs.Common.{true≢false, ext_get_or, get_or-set_same, get_or-set_other, length-set, length-take-le, get_or-take}
use Rattle.std.specs.Option.{unwrap_or}
use Rattle.std.proofs.lemmas.Int.{ints}
use Rattle.std.proofs.Math.IntN.{*ℤ-zero}
use Rattle.std.proofs.lemmas.Bool.{cases_Bool, cases_eq, and_parts, and_from, not-true, or_left, or_right, false_from_ne_true}
use Rattle.std.proofs.lemmas.List.{get_or-map, length-map, get_or_default}
use Rattle.rf_base.proofs.ListLaws.{flag_low}
use Rattle.rf_terms.proofs.KindLaws.{four_roles, kind_listed}
use Rattle.rf_terms.specs.declared.kind.Kind.{Kind}
use Rattle.rf_terms.specs.Kinds.{roles_of, coefficients_of}
use Rattle.rf_terms.specs.Forms.{form, value_of}
use Rattle.rf_log.specs.declared.cond.Cond.{Cond}
use Rattle.rf_log.specs.Case.{Case, count_of, freq_of, freqs_at, margin_of, is_instance, is_among, are_distinct, is_broken, breaks}
use Rattle.rf_log.specs.Box.{Box}
use Rattle.rf_log.specs.Relations.{members}
use Rattle.rf_audit.specs.Left.{has, in_sets, fixed_at, with_target, AreSized, AreChosen, IsAlong, IsClearedAt, IsTargetWindow, IsUnder, Falls}
use Rattle.rf_audit.proofs.Covers.{IsHit, covers-fewer, sole-narrow}
use Rattle.rf_log.specs.Closure.{Round}
use Rattle.rf_log.proofs.CaseLaws.{counts_length, known_role, instance_distinct, instance_full}
use Rattle.rf_audit.proofs.Sets.{at-set, less-fewer, less-kept, less-sized}

form-set : (cs : List ℤ) (fs : List ℕ) (p x : ℕ) → p < length cs → length fs ≡ length cs → get_or fs p 0 ≡ 0
    → form cs (map pos (set fs p x)) ≡ form cs (map pos fs) +ℤ (get_or cs p (pos 0) *ℤ pos x)
form-set [] fs p x low full none = absurd (omega arith)
form-set (a ∷ cs) [] p x low full none = absurd (omega arith)
form-set (a ∷ cs) (f ∷ fs) zero x low full none =
    let e : (a *ℤ pos f) ≡ pos 0 = ap (λ (n : ℕ). a *ℤ pos n) none ∙ *ℤ-zero a in
    omega (arith, ints, e)
form-set (a ∷ cs) (f ∷ fs) (suc p) x low full none =
    let e = form-set cs fs p x (omega arith) (omega arith) none in
    omega (arith, ints, e)

among-at : (roles : List ℕ) (target i : ℕ) → i < length roles → get_or roles i 0 ≡ target → is_among roles target ≡ true
among-at [] target i low is = absurd (omega arith)
among-at (r ∷ roles) target zero low is = or_left (r == target) (is_among roles target) (eq-eqb r target is)
among-at (r ∷ roles) target (suc i) low is = or_right (r == target) (is_among roles target) (among-at roles target i (omega arith) is)

pub differ : (roles : List ℕ) (i p : ℕ) → are_distinct roles ≡ true → i < length roles → p < length roles → (i ≡ p → ⊥) → get_or roles i 0 ≡ get_or roles p 0 → ⊥
differ [] i p distinct low low2 other same = omega arith
differ (r ∷ roles) zero zero distinct low low2 other same = other refl
differ (r ∷ roles) zero (suc p) distinct low low2 other same = true≢false (sym (among-at roles r p (omega arith) (sym same)) ∙ not-true _ (and_parts _ (are_distinct roles) distinct).0)
differ (r ∷ roles) (suc i) zero distinct low low2 other same = true≢false (sym (among-at roles r i (omega arith) same) ∙ not-true _ (and_parts _ (are_distinct roles) distinct).0)
differ (r ∷ roles) (suc i) (suc p) distinct low low2 other same =
    differ roles i p (and_parts (not (is_among roles r)) _ distinct).1 (omega arith) (omega arith) (λ e. other (ap suc e)) same

pub at-target : (fixed : List (Option ℕ)) (c k : ℕ) → with_target fixed c k c ≡ k
at-target fixed c k = ap (λ (b : Bool). if b then k else unwrap_or (fixed_at fixed c) 0) (eq-eqb c c refl)

pub at-other : (fixed : List (Option ℕ)) (c k r : ℕ) → (r ≡ c → ⊥) → with_target fixed c k r ≡ unwrap_or (fixed_at fixed r) 0
at-other fixed c k r other = ap (λ (b : Bool). if b then k else unwrap_or (fixed_at fixed r) 0) (false_from_ne_true (r == c) (λ same. other (eqb-true r c same)))

-- what was chosen for a kind, and the form's value with the target at 0
pub record IsAimed (case : Case) (fixed : List (Option ℕ)) (kind : Kind) (place : ℕ) (chosen freqs : List ℕ) (rest : ℤ) : Type 0 where
  pub four : length chosen ≡ 4
  pub full : length freqs ≡ roles_of kind
  pub low : place < roles_of kind
  pub chose : AreChosen case fixed (roles_of kind) place chosen freqs
  pub is : rest ≡ value_of kind freqs

module _ (case : Case) (fixed : List (Option ℕ)) (kind : Kind) (place : ℕ) (chosen freqs : List ℕ) (rest : ℤ) (aimed : IsAimed case fixed kind place chosen freqs rest) (c : ℕ) where
  abbrev tuple : List ℕ
  tuple = take (roles_of kind) (set chosen place c)

  abbrev at_role : ℕ → ℕ → ℕ
  at_role k r = freq_of case r (with_target fixed c k r)

  low_chosen : place < length chosen
  low_chosen = omega (arith, aimed.low, aimed.four, four_roles kind)

  -- the roles are those that were chosen, and the target
  roles-are : (roles : List ℕ) → length roles ≡ roles_of kind → IsAlong (roles_of kind) place chosen roles → slice_index roles place ≡ c → roles ≡ tuple
  roles-are roles full along here = ext_get_or 0 roles tuple
      (full ∙ sym (length-take-le (roles_of kind) (set chosen place c) (omega (arith, length-set chosen place c, aimed.four, four_roles kind))))
      (λ i low. let low_i : i < roles_of kind = omega (arith, full, low) in
      at-set (λ j r. j < roles_of kind → get_or roles j 0 ≡ r) chosen place c 0 low_chosen (λ _. here) (λ j other low_j. along j low_j other) i low_i
      ∙ sym (get_or-take (roles_of kind) (set chosen place c) i 0 low_i))

  freqs-are : (roles : List ℕ) → length roles ≡ roles_of kind → IsAlong (roles_of kind) place chosen roles → slice_index roles place ≡ c → is_instance case kind roles ≡ true
      → (k : ℕ) → freqs_at case roles (with_target fixed c k) ≡ set freqs place (freq_of case c k)
  freqs-are roles full along here made k = ext_get_or 0 (map (at_role k) roles) (set freqs place (freq_of case c k))
      (length-map roles (at_role k) ∙ full ∙ sym aimed.full ∙ sym (length-set freqs place (freq_of case c k)))
      (λ i low. at-set (λ j f. j < length roles → get_or (map (at_role k) roles) j 0 ≡ f) freqs place (freq_of case c k) 0 (omega (arith, aimed.full, aimed.low))
      (λ low_j. get_or-map (at_role k) roles place 0 0 low_j ∙ ap (at_role k) here ∙ ap (freq_of case c) (at-target fixed c k))
      (λ j other low_j. let r = get_or roles j 0 in
      let apart_c : r ≡ c → ⊥ = λ is. differ roles j place (instance_distinct case kind roles made) low_j (omega (arith, full, aimed.low)) other (is ∙ sym here) in
      get_or-map (at_role k) roles j 0 0 low_j ∙ ap (freq_of case r) (at-other fixed c k r apart_c)
      ∙ ap (λ (x : ℕ). freq_of case x (unwrap_or (fixed_at fixed x) 0)) (along j (omega (arith, full, low_j)) other) ∙ sym (aimed.chose.theirs j (omega (arith, full, low_j)) other))
      i (let e = length-map roles (at_role k) in omega (arith, e, low)))

  -- whether such an instance breaks
  breaks-is : (roles : List ℕ) → length roles ≡ roles_of kind → IsAlong (roles_of kind) place chosen roles → slice_index roles place ≡ c → is_instance case kind roles ≡ true
      → (k : ℕ) → breaks case kind roles (with_target fixed c k)
      ≡ nat_lt (unsigned_abs (rest +ℤ (get_or (coefficients_of kind) place (pos 0) *ℤ pos (freq_of case c k)))) (margin_of case kind tuple)
  breaks-is roles full along here made k =
      ap (λ (fs : List ℕ). is_broken kind fs (margin_of case kind roles)) (freqs-are roles full along here made k)
      ∙ ap (λ (rs : List ℕ). is_broken kind (set freqs place (freq_of case c k)) (margin_of case kind rs)) (roles-are roles full along here)
      ∙ ap (λ (z : ℤ). nat_lt (unsigned_abs z) (margin_of case kind tuple))
      (form-set (coefficients_of kind) freqs place (freq_of case c k) aimed.low aimed.full aimed.chose.target
      ∙ ap (λ (z : ℤ). z +ℤ (get_or (coefficients_of kind) place (pos 0) *ℤ pos (freq_of case c k))) (sym aimed.is))

  -- a target of which no index lies in its window is cleared
  pub target-cleared : (window : ℕ × ℕ) → IsTargetWindow case kind place chosen rest c window → (sets : List (List Bool)) → AreSized case sets
      → ((k : ℕ) → in_sets sets c k ≡ true → window.0 ≤ k → k < window.1 → ⊥) → IsClearedAt case fixed sets kind place chosen c
  target-cleared window in_window sets sized none roles full along fix here made k here_k =
      let here_c : in_sets sets c k ≡ true = subst (λ (x : ℕ). in_sets sets x k ≡ true) here here_k in
      let known : k < count_of case c = let low = flag_low (get_or sets c []) k here_c in omega (arith, low, sized.sizes c) in
      subst (λ (x : ℕ). breaks case kind roles (with_target fixed x k) ≡ false) (sym here)
      (breaks-is roles full along here made k ∙ false_from_ne_true _ (λ near. let both = (in_window k known).0 (ltb-true _ _ near) in none k here_c both.0 both.1))

  -- carriers that aren't an instance are cleared
  pub target-not : (sets : List (List Bool)) → is_instance case kind tuple ≡ false → IsClearedAt case fixed sets kind place chosen c
  target-not sets not_made roles full along fix here made = absurd (true≢false (sym made ∙ (ap (is_instance case kind) (roles-are roles full along here) ∙ not_made)))

  pub target-hits : (window : ℕ × ℕ) → IsTargetWindow case kind place chosen rest c window → is_instance case kind tuple ≡ true → window.1 ≤ count_of case c
      → (path : List Cond) (box : Box) → IsUnder case path fixed box → (k : ℕ) → window.0 ≤ k → k < window.1 → IsHit case path (members box) c k
  target-hits window in_window made within path box under k above below round narrow living =
      let n = roles_of kind in
      let full = instance_full case kind tuple made in
      let at : IsAlong n place chosen tuple = λ i low_i other. get_or-take n (set chosen place c) i 0 low_i ∙ get_or-set_other chosen place i c 0 other in
      let here : slice_index tuple place ≡ c = get_or-take n (set chosen place c) place 0 aimed.low ∙ get_or-set_same chosen place c 0 low_chosen in
      let low : place < length tuple = omega (arith, full, aimed.low) in
      record {
        kind = kind;
        among = kind_listed kind;
        roles = tuple;
        at = with_target fixed c k;
        is_instance = made;
        target = (place, low, get_or_default tuple place c 0 low ∙ here);
        here = at-target fixed c k;
        others = λ r has_r other. sole-narrow (Round case path round) (members box) r (with_target fixed c k r) narrow
            (living r (omega (arith, counts_length case, known_role case kind tuple r made has_r))) (λ j here_j.
            let i = has_r.0 in
            let low_i : i < n = omega (arith, full, has_r.1) in
            let r_is : get_or tuple i 0 ≡ r = get_or_default tuple i 0 r has_r.1 ∙ has_r.2 in
            let not_place : i ≡ place → ⊥ = λ same. other (sym r_is ∙ ap (λ (m : ℕ). get_or tuple m 0) same ∙ here) in
            held-at r j (fixed_at fixed r) refl
            (subst (λ (x : ℕ). is_some (fixed_at fixed x) ≡ true) (sym (at i low_i not_place) ∙ r_is) (aimed.chose.are_fixed i low_i not_place)) here_j other);
        breaks = breaks-is tuple full at here made k ∙ lt-ltb _ _ ((in_window k (omega (arith, below, within))).1 (above, below));
      }
    where
      held-at : (r j : ℕ) (o : Option ℕ) → fixed_at fixed r ≡ o → is_some o ≡ true → members box r j → (r ≡ c → ⊥) → j ≡ with_target fixed c k r
      held-at r j None e some here_j other = absurd (true≢false (sym some))
      held-at r j (Some x) e some here_j other = under.held r x j e here_j ∙ sym (at-other fixed c k r other ∙ ap (λ (o : Option ℕ). unwrap_or o 0) e)

-- ---- sets of which one loses a range

module _ (case : Case) (fixed : List (Option ℕ)) (old : List (List Bool)) (marks : List Bool) (c from end : ℕ)
    (sized : AreSized case old) (low : c < length old) (long : length marks ≡ length (get_or old c []))
    (cut : (k : ℕ) → has marks k ≡ (has (get_or old c []) k && not (nat_le from k && nat_lt k end))) where
  abbrev new : List (List Bool)
  new = set old c marks

  abbrev keeps : ℕ → Bool
  keeps k = not (nat_le from k && nat_lt k end)

  pub cut-gone : (k : ℕ) → in_sets new c k ≡ true → from ≤ k → k < end → ⊥
  cut-gone k here above below =
      true≢false (sym (and_from _ _ (le-leb from k above) (lt-ltb k end below)) ∙ not-true _ ((less-fewer old c marks keeps low cut c k here).1 refl))

  pub cut-falls : ((path : List Cond) (box : Box) → IsUnder case path fixed box → (k : ℕ) → from ≤ k → k < end → IsHit case path (members box) c k) → Falls case fixed old new
  cut-falls hits = record {
    sized = less-sized old c marks keeps low cut case sized long;
    under = λ path under. record {
      within = λ d k here. under.within d k (less-fewer old c marks keeps low cut d k here).0;
      covers = covers-fewer case path (in_sets old) (in_sets new) under.covers (λ d k here. elim (cases_eq d c) [
        | inr other ↦ inl (less-kept old c marks keeps low cut d k here (λ same. absurd (other same)))
        | inl same ↦ elim (cases_Bool (nat_le from k && nat_lt k end)) [
          | inr outside ↦ inl (less-kept old c marks keeps low cut d k here (λ _. ap not outside))
          | inl inside ↦
              let parts = and_parts (nat_le from k) (nat_lt k end) inside in
              inr (subst (λ (x : ℕ). IsHit case path (members (in_sets old)) x k) (sym same) (hits path (in_sets old) under k (leb-true from k parts.0) (ltb-true k end parts.1)))
        ]
      ]);
      held = λ d k j is here. under.held d k j is (less-fewer old c marks keeps low cut d j here).0;
    };
    fewer = λ d k here. (less-fewer old c marks keeps low cut d k here).0;
  }

-- what falls after what fell
pub falls-more : {case : Case} {fixed : List (Option ℕ)} {a b c : List (List Bool)} → Falls case fixed a b → Falls case fixed b c → Falls case fixed a c
falls-more one other = record {
  sized = other.sized;
  under = λ path under. other.under path (one.under path under);
  fewer = λ d k here. one.fewer d k (other.fewer d k here);
}
