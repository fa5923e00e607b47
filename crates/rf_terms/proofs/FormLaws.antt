-- Lemmas on forms: their size, a role more, and the form with one role open.
use Rattle.std.proofs.Common.{◌≡◌, ◌<◌, ◌≤◌, ◌*◌, ◌+◌, ℕ, ℤ, pos, ◌+ℤ◌, ◌*ℤ◌, unsigned_abs, List, [], ◌∷◌, length, get_or, take, drop, map, arith, ap, ◌∙◌, suc, zero, ◌^◌, to_z, of_z, w64}
use Rattle.std.proofs.Common.{insert, length-take, get_or-take}
use Rattle.std.proofs.lemmas.Int.{ints, unsigned_abs-mul, to_z-of_z, fits_signed_from_abs}
use Rattle.std.proofs.lemmas.Nat.{mul-le}
use Rattle.rf_terms.specs.Kinds.{AllSmall}
use Rattle.rf_terms.specs.Forms.{form, AreFrequencies}

pub abs-add : (a b : ℤ) → unsigned_abs (a +ℤ b) ≤ unsigned_abs a + unsigned_abs b
abs-add a b = omega (arith, ints)

pub abs-mul : (c : ℤ) (f : ℕ) → unsigned_abs c ≤ 8 → f ≤ 10000000 → unsigned_abs (c *ℤ pos f) ≤ 80000000
abs-mul c f p q = omega (arith, unsigned_abs-mul c (pos f), mul-le (unsigned_abs c) f 8 10000000 p q)

-- a form of small multiples at frequencies is small
pub form-bound : (cs : List ℤ) (fs : List ℕ) → AllSmall cs → AreFrequencies fs → unsigned_abs (form cs (map pos fs)) ≤ 80000000 * length cs
form-bound [] fs small freqs = omega arith
form-bound (c ∷ cs) [] small freqs = omega arith
form-bound (c ∷ cs) (f ∷ fs) small freqs =
    omega (
      arith,
      abs-add (c *ℤ pos f) (form cs (map pos fs)),
      abs-mul c f (small 0 c (omega arith)).1 (freqs 0 f (omega arith)),
      form-bound cs fs (λ k d h. small (suc k) d (omega arith)) (λ k d h. freqs (suc k) d (omega arith)),
    )

-- one role more
pub form-more : (cs : List ℤ) (fs : List ℕ) (i : ℕ) (c : ℤ) (f : ℕ) → i < length cs → i < length fs →
    form (take (suc i) cs) (map pos (take (suc i) fs)) ≡ form (take i cs) (map pos (take i fs)) +ℤ (get_or cs i c *ℤ pos (get_or fs i f))
form-more [] fs i c f p q = absurd (omega arith)
form-more (a ∷ cs) [] i c f p q = absurd (omega arith)
form-more (a ∷ cs) (b ∷ fs) zero c f p q = omega (arith, ints)
form-more (a ∷ cs) (b ∷ fs) (suc i) c f p q =
    let e : form (take (suc i) cs) (map pos (take (suc i) fs)) ≡ form (take i cs) (map pos (take i fs)) +ℤ (get_or cs i c *ℤ pos (get_or fs i f)) = form-more cs fs i c f (omega arith) (omega arith) in
    omega (arith, ints, e)

-- the form with x in one role: its multiple times x, and the forms of the other roles
pub form-insert : (cs : List ℤ) (fs : List ℕ) (role : ℕ) (c x : ℤ) → role < length cs → length fs + 1 ≡ length cs →
    form cs (insert (map pos fs) role x) ≡ (get_or cs role c *ℤ x) +ℤ (form (take role cs) (map pos (take role fs)) +ℤ form (drop (suc role) cs) (map pos (drop role fs)))
form-insert [] fs role c x p q = absurd (omega arith)
form-insert (a ∷ cs) fs zero c x p q = omega (arith, ints)
form-insert (a ∷ cs) [] (suc role) c x p q = absurd (omega arith)
form-insert (a ∷ cs) (f ∷ fs) (suc role) c x p q =
    let e : form cs (insert (map pos fs) role x) ≡ (get_or cs role c *ℤ x) +ℤ (form (take role cs) (map pos (take role fs)) +ℤ form (drop (suc role) cs) (map pos (drop role fs))) =
    form-insert cs fs role c x (omega arith) (omega arith) in
    omega (arith, ints, e)

-- the form over the first roles is small too
pub form-take-bound : (cs : List ℤ) (fs : List ℕ) (i : ℕ) → AllSmall cs → AreFrequencies fs → length cs ≤ 8 → unsigned_abs (form (take i cs) (map pos (take i fs))) ≤ 640000000
form-take-bound cs fs i small freqs few =
    let shorter : length (take i cs) ≤ length cs = omega (arith, length-take i cs) in
    let shorter' : length (take i fs) ≤ length fs = omega (arith, length-take i fs) in
    let below : (k : ℕ) → k < length (take i cs) → k < i = λ k h. omega (arith, length-take i cs, h) in
    let below' : (k : ℕ) → k < length (take i fs) → k < i = λ k h. omega (arith, length-take i fs, h) in
    let s : AllSmall (take i cs) = λ k d h. let e : get_or (take i cs) k d ≡ get_or cs k d = get_or-take i cs k d (below k h) in rw e (small k d (omega (arith, h, shorter))) in
    let t : AreFrequencies (take i fs) = λ k d h. let e : get_or (take i fs) k d ≡ get_or fs k d = get_or-take i fs k d (below' k h) in rw e (freqs k d (omega (arith, h, shorter'))) in
    omega (arith, form-bound (take i cs) (take i fs) s t, shorter, few)

-- a number that fits is what its bits say
pub told : (z : ℤ) → unsigned_abs z < 2 ^ 63 → to_z w64 (of_z w64 z) ≡ z
told z h = to_z-of_z w64 z (fits_signed_from_abs w64 z h)

-- what the loop adds
pub step-is : (s m r : ℤ) (f : ℕ) → unsigned_abs m ≤ 8 → r ≡ pos f → f ≤ 10000000 → (s +ℤ to_z w64 (of_z w64 (to_z w64 (of_z w64 m) *ℤ to_z w64 (of_z w64 r)))) ≡ s +ℤ (m *ℤ pos f)
step-is s m r f hm e hf =
    let hr : unsigned_abs r < 2 ^ 63 = omega (arith, ap unsigned_abs e, hf) in
    let a : to_z w64 (of_z w64 m) ≡ m = told m (omega (arith, hm)) in
    let b : to_z w64 (of_z w64 r) ≡ pos f = told r hr ∙ e in
    let p : (to_z w64 (of_z w64 m) *ℤ to_z w64 (of_z w64 r)) ≡ m *ℤ pos f = rw (a, b) in
    let q : unsigned_abs (m *ℤ pos f) < 2 ^ 63 = omega (arith, abs-mul m f hm hf) in
    ap (λ (k : ℤ). s +ℤ k) (ap (λ (k : ℤ). to_z w64 (of_z w64 k)) p ∙ told (m *ℤ pos f) q)

pub step-small : (s m : ℤ) (f : ℕ) → unsigned_abs s ≤ 640000000 → unsigned_abs m ≤ 8 → f ≤ 10000000 → unsigned_abs (s +ℤ (m *ℤ pos f)) < 2 ^ 63
step-small s m f hs hm hf = omega (arith, abs-add s (m *ℤ pos f), abs-mul m f hm hf, hs)

pub sum-told : (a b : ℤ) → unsigned_abs a ≤ 640000000 → unsigned_abs b ≤ 640000000 → to_z w64 (of_z w64 (to_z w64 (of_z w64 a) +ℤ to_z w64 (of_z w64 b))) ≡ a +ℤ b
sum-told a b h k =
    let p : to_z w64 (of_z w64 a) ≡ a = told a (omega (arith, h)) in
    let q : to_z w64 (of_z w64 b) ≡ b = told b (omega (arith, k)) in
    let r : to_z w64 (of_z w64 (a +ℤ b)) ≡ a +ℤ b = told (a +ℤ b) (omega (arith, h, k, abs-add a b)) in
    rw (p, q, r)
