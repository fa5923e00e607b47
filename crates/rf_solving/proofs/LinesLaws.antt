-- Lemmas on lists.
use Rattle.std.proofs.Common.{◌≡◌, ℕ, zero, suc, ◌+◌, ◌<◌, ◌≤◌, List, [], ◌∷◌, ◌++◌, length, take, map, get_or, refl, ap, sym, subst, ◌∙◌, arith, add-one, append-nil, append_assoc, All}
use Rattle.std.specs.List.{range_with_len}
use Rattle.std.proofs.Math.Seq.{take-suc}
use Rattle.std.proofs.lemmas.List.Elements.{All-push}
use Rattle.std.proofs.lemmas.List.FromFn.{map-range_with_len_more}
use Rattle.rf_solving.specs.Solving.{at_line, at_lines}

take_one : {X : Type 0} (xs : List X) (i : ℕ) (d : X) → i < length xs → take (i + 1) xs ≡ take i xs ++ get_or xs i d ∷ []
take_one xs i d low = ap (λ n. take n xs) (add-one i) ∙ take-suc xs i d low

take_whole : {X : Type 0} (xs : List X) (i : ℕ) → length xs ≤ i → take i xs ≡ xs
take_whole [] zero h = refl
take_whole [] (suc i) h = refl
take_whole (x ∷ xs) zero h = absurd (omega (arith, h))
take_whole (x ∷ xs) (suc i) h = ap (λ ys. x ∷ ys) (take_whole xs i (omega (arith, h)))

-- what holds of the front and of the next element
pub all_more : {X : Type 0} (P : X → Type 0) (xs : List X) (i : ℕ) (d : X) → i < length xs → All P (take i xs) → P (get_or xs i d) → All P (take (i + 1) xs)
all_more P xs i d low front here = subst (λ ys. All P ys) (sym (take_one xs i d low)) (All-push P (take i xs) (get_or xs i d) front here)

pub all_whole : {X : Type 0} (P : X → Type 0) (xs : List X) (i : ℕ) → length xs ≤ i → All P (take i xs) → All P xs
all_whole P xs i h front = subst (λ ys. All P ys) (take_whole xs i h) front

-- the lines of the front and of the next name
lines_push : (ns : List (List ℕ)) (fs : List ℕ) (n : List ℕ) (f : ℕ) → length ns ≡ length fs → at_lines (ns ++ n ∷ []) (fs ++ f ∷ []) ≡ at_lines ns fs ++ at_line n f
lines_push [] [] n f e = append-nil (at_line n f)
lines_push [] (g ∷ fs) n f e = absurd (omega (arith, e))
lines_push (m ∷ ns) [] n f e = absurd (omega (arith, e))
lines_push (m ∷ ns) (g ∷ fs) n f e =
    ap (λ text. at_line m g ++ text) (lines_push ns fs n f (omega (arith, e))) ∙ sym (append_assoc (at_line m g) (at_lines ns fs) (at_line n f))

length_take : {X : Type 0} (xs : List X) (i : ℕ) → i ≤ length xs → length (take i xs) ≡ i
length_take [] zero h = refl
length_take [] (suc i) h = absurd (omega (arith, h))
length_take (x ∷ xs) zero h = refl
length_take (x ∷ xs) (suc i) h = ap suc (length_take xs i (omega (arith, h)))

pub lines_more : (ns : List (List ℕ)) (fs : List ℕ) (i : ℕ) (n : List ℕ) (f : ℕ) → length ns ≡ length fs → i < length ns
    → at_lines (take (i + 1) ns) (take (i + 1) fs) ≡ at_lines (take i ns) (take i fs) ++ at_line (get_or ns i n) (get_or fs i f)
lines_more ns fs i n f e low =
    ap (λ a. at_lines a (take (i + 1) fs)) (take_one ns i n low)
    ∙ ap (λ b. at_lines (take i ns ++ get_or ns i n ∷ []) b) (take_one fs i f (omega (arith, e, low)))
    ∙ lines_push (take i ns) (take i fs) (get_or ns i n) (get_or fs i f) (length_take ns i (omega (arith, low)) ∙ sym (length_take fs i (omega (arith, e, low))))

pub lines_whole : (ns : List (List ℕ)) (fs : List ℕ) (i : ℕ) → length ns ≡ length fs → length ns ≤ i → at_lines (take i ns) (take i fs) ≡ at_lines ns fs
lines_whole ns fs i e h = ap (λ a. at_lines a (take i fs)) (take_whole ns i h) ∙ ap (λ b. at_lines ns b) (take_whole fs i (omega (arith, e, h)))

pub map_more : (f : ℕ → ℕ) (k : ℕ) → map f (range_with_len 0 (k + 1)) ≡ map f (range_with_len 0 k) ++ f k ∷ []
map_more f k = map-range_with_len_more f 0 k k (omega arith)
