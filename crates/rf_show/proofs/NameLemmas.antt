use Rattle.std.proofs.Common.{◌≡◌, ℕ, Bool, true, false, not, ◌||◌, cond, List, [], ◌∷◌, ◌++◌, map, refl, ap, sym, ◌∙◌}
use Rattle.std.specs.List.{list_any}
use Rattle.std.specs.Cmp.Lexicographic.{same_text}
use Rattle.std.proofs.lemmas.List.Folds.{list_any-append}
use Rattle.rf_base.specs.Name.{same_name}
use Rattle.rf_profiles.specs.Profile.{differ}
use Rattle.rf_show.specs.After.{remove_first}
use Rattle.rf_show.proofs.FirstLaws.{none-remove_first}
use Rattle.std.proofs.lemmas.Bool.{not-true, and_from, and_parts, or_from}
use Rattle.rf_base.proofs.ListLaws.{any_map}

differ_cond : {X : Type 0} (b : Bool) (g : X → List ℕ) (x : X) (xs ys : List X) → differ (map g (x ∷ xs)) ≡ true →
    (list_any (same_name (g x)) (map g xs) ≡ false → list_any (same_name (g x)) (map g ys) ≡ false) → (differ (map g xs) ≡ true → differ (map g ys) ≡ true) → differ (map g (cond b xs (x ∷ ys))) ≡ true
differ_cond true g x xs ys h n k = (and_parts _ _ h).1
differ_cond false g x xs ys h n k =
    let parts = and_parts _ _ h in
    and_from _ _ (ap not (n (not-true _ parts.0))) (k parts.1)

none_map : {X : Type 0} (q : List ℕ → Bool) (g : X → List ℕ) (p : X → Bool) (xs : List X) → list_any q (map g xs) ≡ false → list_any q (map g (remove_first p xs)) ≡ false
none_map q g p xs h =
    any_map q g (remove_first p xs) ∙ none-remove_first (λ x. q (g x)) p xs (sym (any_map q g xs) ∙ h)

-- names still differ where one is taken away
pub differ-remove_first : {X : Type 0} (g : X → List ℕ) (p : X → Bool) (xs : List X) → differ (map g xs) ≡ true → differ (map g (remove_first p xs)) ≡ true
differ-remove_first g p [] h = refl
differ-remove_first g p (x ∷ xs) h =
    differ_cond (p x) g x xs (remove_first p xs) h (none_map (same_name (g x)) g p xs) (differ-remove_first g p xs)

split_more : (a b r c d : Bool) → ((a || b) || r) ≡ false → (r ≡ false → (c ≡ false) × (d ≡ false)) → ((a || c) ≡ false) × ((b || d) ≡ false)
split_more true b r c d h k = cc
split_more false true r c d h k = cc
split_more false false r c d h k = k h

split_none : (p q : List ℕ → Bool) (ys : List (List ℕ)) → list_any (λ y. p y || q y) ys ≡ false → (list_any p ys ≡ false) × (list_any q ys ≡ false)
split_none p q [] h = (refl, refl)
split_none p q (y ∷ ys) h =
    split_more (p y) (q y) (list_any (λ y. p y || q y) ys) (list_any p ys) (list_any q ys) h (split_none p q ys)

-- names of two lists differ where those of each do, and none of the second is in the first
pub differ-append : (xs ys : List (List ℕ)) → differ xs ≡ true → differ ys ≡ true → list_any (λ y. list_any (λ x. same_name x y) xs) ys ≡ false → differ (xs ++ ys) ≡ true
differ-append [] ys hx hy n = hy
differ-append (x ∷ xs) ys hx hy n =
    let parts = and_parts _ _ hx in
    let apart = split_none (same_name x) (λ y. list_any (λ x. same_name x y) xs) ys n in
    and_from _ _
    (ap not (list_any-append (same_name x) xs ys ∙ or_from _ _ (not-true _ parts.0) apart.0))
    (differ-append xs ys parts.1 hy apart.1)

-- two names that are the same as a third
pub same_both : (a b c : List ℕ) → same_name a b ≡ true → same_name a c ≡ true → same_name c b ≡ true
same_both a b c h k = ap (λ n. same_name n b) (sym (same_text a c (sym k))) ∙ h
