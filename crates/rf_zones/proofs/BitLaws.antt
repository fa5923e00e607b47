use Rattle.std.proofs.Common.{◌≡◌, ℕ, suc, zero, Bool, true, false, ◌+◌, ◌*◌, ◌/◌, ◌%◌, ◌<◌, List, [], ◌∷◌, length, get_or, map, nat_lt, ◌&&◌, ◌==◌, refl, ap, sym, ◌∙◌, arith, lt-ltb}
use Rattle.std.specs.Int.{bit_at}
use Rattle.std.specs.List.{list_all}
use Rattle.std.proofs.lemmas.Grind.{common_steps}
use Rattle.std.proofs.lemmas.Nat.Bits.{bit_at_lowest, bit_at-suc, bit_at-zero}
use Rattle.rf_zones.specs.Masks.{has_bit, has_bits, with_bits}
use Rattle.rf_zones.specs.Times.{is_on}
use Rattle.rf_zones.specs.Slices.{mask_at, on_at}
use Rattle.rf_zones.proofs.MaskLaws.{same_mask}

bit_of : (bs : List Bool) (k : ℕ) → (bit_at (with_bits bs) k == 1) ≡ get_or bs k false
bit_of [] k = ap (λ n. n == 1) (bit_at-zero k)
bit_of (true ∷ bs) zero =
    let odd : (1 + 2 * with_bits bs) % 2 ≡ 1 = omega arith in
    ap (λ n. n == 1) (bit_at_lowest (1 + 2 * with_bits bs) ∙ odd)
bit_of (false ∷ bs) zero =
    let even : (0 + 2 * with_bits bs) % 2 ≡ 0 = omega arith in
    ap (λ n. n == 1) (bit_at_lowest (0 + 2 * with_bits bs) ∙ even)
bit_of (true ∷ bs) (suc k) =
    let half : (1 + 2 * with_bits bs) / 2 ≡ with_bits bs = omega arith in
    ap (λ n. n == 1) (bit_at-suc (1 + 2 * with_bits bs) k ∙ ap (λ n. bit_at n k) half) ∙ bit_of bs k
bit_of (false ∷ bs) (suc k) =
    let half : (0 + 2 * with_bits bs) / 2 ≡ with_bits bs = omega arith in
    ap (λ n. n == 1) (bit_at-suc (0 + 2 * with_bits bs) k ∙ ap (λ n. bit_at n k) half) ∙ bit_of bs k

at_map : {X : Type 0} (f : X → Bool) (xs : List X) (k : ℕ) (d : X) → get_or (map f xs) k false ≡ (nat_lt k (length xs) && f (get_or xs k d))
at_map f [] k d = grind (arith, common_steps)
at_map f (x ∷ xs) zero d = grind (arith, common_steps)
at_map f (x ∷ xs) (suc k) d = grind (arith, common_steps, at_map f xs k d)

-- the carriers of a mask are those that are on
pub mask_bit : (times : List (List (ℕ × ℕ))) (minute k : ℕ) → has_bit (mask_at times minute) k ≡ on_at times minute k
unfolding mask_at has_bit
mask_bit times minute k = bit_of (map (λ t. is_on t minute) times) k ∙ at_map (λ t. is_on t minute) times k []

pub mask_bits : (times : List (List (ℕ × ℕ))) (minute : ℕ) (set : List ℕ) → has_bits set (mask_at times minute) ≡ list_all (on_at times minute) set
mask_bits times minute [] = refl
mask_bits times minute (k ∷ set) =
    ap (λ b. b && has_bits set (mask_at times minute)) (mask_bit times minute k) ∙ ap (λ b. on_at times minute k && b) (mask_bits times minute set)

pub on_there : (times : List (List (ℕ × ℕ))) (minute k : ℕ) → k < length times → on_at times minute k ≡ is_on (get_or times k []) minute
on_there times minute k there = rw (lt-ltb k (length times) there) refl

and-twice : (a b : Bool) → (a && (a && b)) ≡ (a && b)
and-twice true b = refl
and-twice false b = refl

-- the mask with the carriers that are on
pub mask_of_all : (times : List (List (ℕ × ℕ))) (minute mask k : ℕ) → k ≡ length times → ((c : ℕ) → has_bit mask c ≡ (nat_lt c k && on_at times minute c)) → mask ≡ mask_at times minute
mask_of_all times minute mask k all told = same_mask mask (mask_at times minute) (λ c.
    told c ∙ ap (λ n. nat_lt c n && on_at times minute c) all ∙ and-twice (nat_lt c (length times)) (is_on (get_or times c []) minute) ∙ sym (mask_bit times minute c))
