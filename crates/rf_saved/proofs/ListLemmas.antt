-- Lemmas on lists.
use Rattle.std.proofs.Common.{◌≡◌, ◌∙◌, ℕ, ◌+◌, List, [], ◌∷◌, Bool, cond, ◌&&◌, map, refl, ap}
use Rattle.std.specs.List.{All, AllZip, count_by, fold, list_all}
use Rattle.std.proofs.lemmas.List.Elements.{All-head, All-tail}

-- a test of each element, and another of each element changed by f
pub all_mapped : {X : Type 0} (p q : X → Bool) (f : X → X) (Q : X → Type 0) (xs : List X) → ((x : X) → Q x → p (f x) ≡ q x) → All Q xs
    → list_all p (map f xs) ≡ list_all q xs
all_mapped p q f Q [] same all = refl
all_mapped p q f Q (x ∷ xs) same all =
    ap (λ b. b && list_all p (map f xs)) (same x (All-head Q x xs all))
    ∙ ap (λ b. q x && b) (all_mapped p q f Q xs same (All-tail Q x xs all))

fold_mapped : {X : Type 0} (p : X → Bool) (f : X → X) (xs : List X) (k : ℕ) → ((x : X) → p (f x) ≡ p x)
    → fold (λ a x. a + cond (p x) 1 0) k (map f xs) ≡ fold (λ a x. a + cond (p x) 1 0) k xs
fold_mapped p f [] k same = refl
fold_mapped p f (x ∷ xs) k same =
    ap (λ b. fold (λ a y. a + cond (p y) 1 0) (k + cond b 1 0) (map f xs)) (same x) ∙ fold_mapped p f xs (k + cond (p x) 1 0) same

-- as many elements pass a test that f doesn't change
pub count_mapped : {X : Type 0} (p : X → Bool) (f : X → X) (xs : List X) → ((x : X) → p (f x) ≡ p x) → count_by p (map f xs) ≡ count_by p xs
count_mapped p f xs same = fold_mapped p f xs 0 same

-- elements that are paired become the same
pub zip_mapped : {X Y Z : Type 0} (P : X → Type 0) (R : X → Y → Type 0) (f : Y → Z) (g : X → Z) (xs : List X) (ys : List Y)
    → ((x : X) (y : Y) → P x → R x y → f y ≡ g x) → All P xs → AllZip R xs ys → map f ys ≡ map g xs
zip_mapped P R f g [] [] same all zip = refl
zip_mapped P R f g [] (y ∷ ys) same all zip = absurd zip
zip_mapped P R f g (x ∷ xs) [] same all zip = absurd zip
zip_mapped P R f g (x ∷ xs) (y ∷ ys) same all zip =
    ap (λ z. z ∷ map f ys) (same x y (All-head P x xs all) zip.0)
    ∙ ap (λ zs. g x ∷ zs) (zip_mapped P R f g xs ys same (All-tail P x xs all) zip.1)
