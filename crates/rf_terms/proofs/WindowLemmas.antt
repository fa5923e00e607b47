-- Lemmas on windows: quotients rounded down, and the numbers near a multiple.
use Rattle.std.proofs.Common.{◌≡◌, ◌<◌, ◌≤◌, ◌↔◌, ◌*◌, ◌/◌, ℕ, ℤ, pos, negsuc, ◌+ℤ◌, ◌-ℤ◌, ◌*ℤ◌, ◌≤ℤ◌, ◌<ℤ◌, neg_ℤ, unsigned_abs, arith, ap, ◌∙◌, suc, ◌^◌, to_z, of_z, w64}
use Rattle.std.specs.Prelude.{Option, Some, None}
use Rattle.rf_terms.specs.Windows.{IsWindow}
use Rattle.rf_terms.proofs.FormLaws.{told}
use Rattle.std.proofs.lemmas.Int.{ints, by_lt_z}
use Rattle.std.proofs.lemmas.Nat.{div_below, le-div, mod_below, div-add-mod'}
use Rattle.std.proofs.Math.Nat.{mul-div-le, mul-le-mul_left}
use Rattle.std.proofs.Math.IntN.{suc_ℤ, +ℤ_one, *ℤ_comm, suc_ℤ-*ℤ, *ℤ-negsuc}
use Rattle.std.specs.Int.{int_div_euclid}

-- a number is at most a quotient rounded down exactly where its multiple is at most the dividend
pub le-floor : (n : ℕ) (a x : ℤ) → 0 < n → (x ≤ℤ int_div_euclid a (pos n)) ↔ ((pos n *ℤ x) ≤ℤ a)
le-floor n (pos k) (pos y) h = (
  λ p. let q : y ≤ k / n = omega (arith, ints, p) in
      let r : n * y ≤ n * (k / n) = mul-le-mul_left n q in
      omega (arith, ints, r, mul-div-le k n),
  λ p. let q : y * n ≤ k = omega (arith, ints, p) in
      omega (arith, ints, le-div y k n h q),
)
le-floor n (pos k) (negsuc y) h = (λ p. omega (arith, ints), λ p. omega (arith, ints))
le-floor n (negsuc k) (pos y) h = (λ p. absurd (omega (arith, ints, p)), λ p. absurd (omega (arith, ints, p)))
le-floor n (negsuc k) (negsuc y) h = (
  λ p. let q : k / n ≤ y = omega (arith, ints, p) in
      let r : n * suc (k / n) ≤ n * suc y = mul-le-mul_left n (omega arith) in
      let s : k < n * suc y = omega (arith, r, mod_below k n h, div-add-mod' k n) in
      omega (arith, ints, s),
  λ p. let q : k < suc y * n = omega (arith, ints, p) in
      omega (arith, ints, div_below k n (suc y) h q),
)

pub mul-next : (n : ℕ) (x : ℤ) → (pos n *ℤ (x +ℤ pos 1)) ≡ (pos n *ℤ x) +ℤ pos n
mul-next n x =
    ap (λ (k : ℤ). pos n *ℤ k) (+ℤ_one x) ∙ *ℤ_comm (pos n) (suc_ℤ x) ∙ suc_ℤ-*ℤ x (pos n) ∙ ap (λ (k : ℤ). k +ℤ pos n) (*ℤ_comm x (pos n))

-- the numbers within m of the centre
pub near-centre : (z centre : ℤ) (m : ℕ) → (unsigned_abs (z -ℤ centre) < m) ↔ (((centre -ℤ pos m) <ℤ z) × (z ≤ℤ (centre +ℤ pos m -ℤ pos 1)))
near-centre z centre m = (λ p. (omega (arith, ints, p), omega (arith, ints, p)), λ p. omega (arith, ints, p.0, p.1))

-- n times x is within m of the centre
abbrev pub Near : ℕ → ℤ → ℕ → ℤ → Type 0
Near n centre m x = unsigned_abs ((pos n *ℤ x) -ℤ centre) < m

-- the numbers whose multiple is near the centre are those between two quotients
pub near-between : (n : ℕ) (centre : ℤ) (m : ℕ) (x least greatest : ℤ) → 0 < n → least ≡ int_div_euclid (centre -ℤ pos m +ℤ pos n) (pos n) →
    greatest ≡ int_div_euclid (centre +ℤ pos m -ℤ pos 1) (pos n) → Near n centre m x ↔ ((least ≤ℤ x) × (x ≤ℤ greatest))
near-between n centre m x least greatest h e f =
    let low : (((x +ℤ pos 1) ≤ℤ least) ↔ ((pos n *ℤ (x +ℤ pos 1)) ≤ℤ (centre -ℤ pos m +ℤ pos n))) = rw e (le-floor n (centre -ℤ pos m +ℤ pos n) (x +ℤ pos 1) h) in
    let high : ((x ≤ℤ greatest) ↔ ((pos n *ℤ x) ≤ℤ (centre +ℤ pos m -ℤ pos 1))) = rw f (le-floor n (centre +ℤ pos m -ℤ pos 1) x h) in
    let near : Near n centre m x ↔ (((centre -ℤ pos m) <ℤ (pos n *ℤ x)) × ((pos n *ℤ x) ≤ℤ (centre +ℤ pos m -ℤ pos 1))) = near-centre (pos n *ℤ x) centre m in
    let next : (pos n *ℤ (x +ℤ pos 1)) ≡ (pos n *ℤ x) +ℤ pos n = mul-next n x in (
      λ p. (
        by_lt_z x least
            (λ q. absurd (omega (arith, ints, low.0 (omega (arith, ints, q)), next, (near.0 p).0)))
            (λ q. q),
        high.1 (near.0 p).1,
      ),
      λ p. near.1 (
        by_lt_z (centre -ℤ pos m) (pos n *ℤ x)
            (λ q. q)
            (λ q. absurd (omega (arith, ints, low.1 (omega (arith, ints, q, next)), p.0))),
        high.0 p.1,
      ),
    )

-- the centre of the numbers that are near, for a multiple above or below 0
pub record IsCentre (c rest centre : ℤ) : Type 0 where
  pub below : c <ℤ pos 0 → centre ≡ rest
  pub above : pos 0 ≤ℤ c → centre ≡ neg_ℤ rest

neg-mul : (k : ℕ) (x : ℤ) → (negsuc k *ℤ x) ≡ neg_ℤ (pos (suc k) *ℤ x)
neg-mul k x = *ℤ_comm (negsuc k) x ∙ *ℤ-negsuc x k ∙ ap neg_ℤ (*ℤ_comm x (pos (suc k)))

pub to-near : (c rest x centre : ℤ) (m : ℕ) → IsCentre c rest centre → (unsigned_abs ((c *ℤ x) +ℤ rest) < m) ↔ Near (unsigned_abs c) centre m x
to-near (pos n) rest x centre m h =
    let e : centre ≡ neg_ℤ rest = h.above (omega (arith, ints)) in
    let same : unsigned_abs ((pos n *ℤ x) +ℤ rest) ≡ unsigned_abs ((pos n *ℤ x) -ℤ centre) = omega (arith, ints, e) in
    (λ p. omega (arith, same, p), λ p. omega (arith, same, p))
to-near (negsuc k) rest x centre m h =
    let e : centre ≡ rest = h.below (omega (arith, ints)) in
    let turned : (negsuc k *ℤ x) ≡ neg_ℤ (pos (suc k) *ℤ x) = neg-mul k x in
    let same : unsigned_abs ((negsuc k *ℤ x) +ℤ rest) ≡ unsigned_abs ((pos (suc k) *ℤ x) -ℤ centre) = omega (arith, ints, e, turned) in
    (λ p. omega (arith, same, p), λ p. omega (arith, same, p))

-- what `near` computes
pub record Ends (c rest : ℤ) (m : ℕ) (least greatest : ℤ) : Type 0 where
  pub centre : ℤ
  pub is_centre : IsCentre c rest centre
  pub some : 0 < unsigned_abs c
  pub low : least ≡ int_div_euclid (centre -ℤ pos m +ℤ pos (unsigned_abs c)) (pos (unsigned_abs c))
  pub high : greatest ≡ int_div_euclid (centre +ℤ pos m -ℤ pos 1) (pos (unsigned_abs c))

pub near-ends : (c rest : ℤ) (m : ℕ) (least greatest x : ℤ) → Ends c rest m least greatest → (unsigned_abs ((c *ℤ x) +ℤ rest) < m) ↔ ((least ≤ℤ x) × (x ≤ℤ greatest))
near-ends c rest m least greatest x h =
    let a = to-near c rest x h.centre m h.is_centre in
    let b = near-between (unsigned_abs c) h.centre m x least greatest h.some h.low h.high in
    (λ p. b.0 (a.0 p), λ p. a.1 (b.1 p))

-- what the code computes, without its conversions
pub low-is : (centre margin step r : ℤ) (m n : ℕ) → unsigned_abs centre ≤ 1280000000 → margin ≡ pos m → step ≡ pos n → m < 2 ^ 32 → n ≤ 8 →
    r ≡ int_div_euclid (to_z w64 (of_z w64 (to_z w64 (of_z w64 (centre -ℤ to_z w64 (of_z w64 margin))) +ℤ to_z w64 (of_z w64 step)))) (to_z w64 (of_z w64 step)) →
    r ≡ int_div_euclid (centre -ℤ pos m +ℤ pos n) (pos n)
low-is centre margin step r m n hc em en hm hn e =
    let a : to_z w64 (of_z w64 margin) ≡ pos m = told margin (omega (arith, ap unsigned_abs em, hm)) ∙ em in
    let b : to_z w64 (of_z w64 step) ≡ pos n = told step (omega (arith, ap unsigned_abs en, hn)) ∙ en in
    let p : to_z w64 (of_z w64 (centre -ℤ pos m)) ≡ centre -ℤ pos m = told (centre -ℤ pos m) (omega (arith, ints, hc, hm)) in
    let q : to_z w64 (of_z w64 (centre -ℤ pos m +ℤ pos n)) ≡ centre -ℤ pos m +ℤ pos n = told (centre -ℤ pos m +ℤ pos n) (omega (arith, ints, hc, hm, hn)) in
    e ∙ rw (a, b, p, q)

pub high-is : (centre margin step r : ℤ) (m n : ℕ) → unsigned_abs centre ≤ 1280000000 → margin ≡ pos m → step ≡ pos n → m < 2 ^ 32 → n ≤ 8 →
    r ≡ int_div_euclid (to_z w64 (of_z w64 (to_z w64 (of_z w64 (centre +ℤ to_z w64 (of_z w64 margin))) -ℤ pos 1))) (to_z w64 (of_z w64 step)) → r ≡ int_div_euclid (centre +ℤ pos m -ℤ pos 1) (pos n)
high-is centre margin step r m n hc em en hm hn e =
    let a : to_z w64 (of_z w64 margin) ≡ pos m = told margin (omega (arith, ap unsigned_abs em, hm)) ∙ em in
    let b : to_z w64 (of_z w64 step) ≡ pos n = told step (omega (arith, ap unsigned_abs en, hn)) ∙ en in
    let p : to_z w64 (of_z w64 (centre +ℤ pos m)) ≡ centre +ℤ pos m = told (centre +ℤ pos m) (omega (arith, ints, hc, hm)) in
    let q : to_z w64 (of_z w64 (centre +ℤ pos m -ℤ pos 1)) ≡ centre +ℤ pos m -ℤ pos 1 = told (centre +ℤ pos m -ℤ pos 1) (omega (arith, ints, hc, hm, hn)) in
    e ∙ rw (a, b, p, q)

pub centre-small : (c rest centre : ℤ) (n : ℕ) → IsCentre c rest centre → unsigned_abs rest ≤ n → unsigned_abs centre ≤ n
centre-small c rest centre n h p =
    by_lt_z c (pos 0)
    (λ q. let e : centre ≡ rest = h.below q in omega (arith, ints, e, p))
    (λ q. let e : centre ≡ neg_ℤ rest = h.above q in omega (arith, ints, e, p))

-- what holds for the same numbers has the same window
pub window-same : (P Q : ℤ → Type 0) (r : Option (ℤ × ℤ)) → ((x : ℤ) → P x ↔ Q x) → IsWindow P r → IsWindow Q r
window-same P Q None same h = λ x q. h x ((same x).1 q)
window-same P Q (Some w) same h = (h.0, λ x. (λ q. (h.1 x).0 ((same x).1 q), λ b. (same x).0 ((h.1 x).1 b)))
