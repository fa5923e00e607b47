-- Lemmas on cells of values, and on carriers in the last role but one with which nothing is broken.
use Rattle.std.proofs.Common.{◌≡◌, ◌≤◌, ◌<◌, ◌+◌, ◌-◌, ◌*◌, ◌/◌, ◌%◌, ℕ, ℤ, pos, ◌+ℤ◌, ◌-ℤ◌, ◌*ℤ◌, unsigned_abs, Bool, true, false, List, [], ◌∷◌, ◌++◌, length, get_or, ap, sym, ◌∙◌, arith}
use Rattle.std.proofs.Common.{inl, inr, ◌⊎◌, append_assoc, length-append, true≢false}
use Rattle.std.proofs.lemmas.Int.{ints}
use Rattle.std.proofs.lemmas.Bool.{cases_Bool, cases_lt}
use Rattle.std.proofs.lemmas.Nat.{div_below}
use Rattle.std.proofs.Math.Nat.{lt-div-mul-add}
use Rattle.rf_terms.specs.Kinds.{coefficients_of, roles_of}
use Rattle.rf_zones.specs.Masks.{has_bit}
use Rattle.rf_show.specs.Query.{asked, margin_of}
use Rattle.rf_rules.specs.declared.pairings.Pairings.{Pairings}
use Rattle.rf_rules.specs.declared.search.Search.{Search}
use Rattle.rf_rules.specs.Tuples.{tuples, upto}
use Rattle.rf_rules.specs.Instances.{distance_of, is_broken, khz_in}
use Rattle.rf_rules.specs.Paired.{Covers, HasPairs, cell, mask_near, pair_value, stands}
use Rattle.rf_rules.specs.Searches.{IsReady, broken_in, lane_of, partial_of}
use Rattle.rf_rules.proofs.FormLemmas.{asked-past, distance-is, first-le, lane-term, margin-push, partial-push}
use Rattle.rf_rules.proofs.HopelessLemmas.{hopeless-unassigned}
use Rattle.rf_rules.proofs.ReadyLemmas.{ready-bound}
use Rattle.rf_rules.proofs.SearchLemmas.{blank-all, broken-far, broken-no_candidate, one}

-- ---- cells

half : (u z w : ℕ) → 0 < w → u < z + w → u / w ≤ z / w + 1
half u z w h q =
    let below : z < z / w * w + w = lt-div-mul-add h in
    omega (arith, div_below u w (z / w + 2) h (omega (arith, q, below)))

-- two numbers that are less than a width apart lie in one cell, or in two that stand side by side
beside : (u z w : ℕ) → 0 < w → u < z + w → z < u + w → (u / w + 1 ≡ z / w) ⊎ ((u / w + 1 ≡ z / w + 1) ⊎ (u / w + 1 ≡ z / w + 2))
beside u z w h p q =
    let a : u / w ≤ z / w + 1 = half u z w h p in
    let b : z / w ≤ u / w + 1 = half z u w h q in
    elim (cases_lt (u / w) (z / w)) [
      | inl r ↦ inl (omega (arith, b, r))
      | inr r ↦ elim (cases_lt (z / w) (u / w)) [
        | inl s ↦ inr (inr (omega (arith, a, s)))
        | inr s ↦ inr (inl (omega (arith, r, s)))
      ]
    ]

-- a carrier was put into a cell
pub record Marks (old new : Pairings) (i carrier : ℕ) : Type 0 where
  pub width : new.width ≡ old.width
  pub room : length new.cells.items ≡ length old.cells.items
  pub marked : has_bit (cell new i) carrier ≡ true
  pub kept : (j other : ℕ) → has_bit (get_or old.cells.items j 0) other ≡ true → has_bit (get_or new.cells.items j 0) other ≡ true

stays : (old new : Pairings) (i carrier j other : ℕ) → Marks old new i carrier → has_bit (cell old j) other ≡ true → has_bit (cell new j) other ≡ true
stays old new i carrier j other m h =
    let k : has_bit (get_or new.cells.items (j % length old.cells.items) 0) other ≡ true = m.kept (j % length old.cells.items) other h in
    rw m.room k

pub covers-kept : (old new : Pairings) (i carrier other : ℕ) (value : ℤ) → Marks old new i carrier → Covers old other value → Covers new other value
covers-kept old new i carrier other value m h = λ product small near.
    let n : unsigned_abs (product +ℤ value) < old.width = omega (arith, near, m.width) in
    let s : has_bit (cell new (unsigned_abs (product +ℤ pos 640000000) / old.width + 1)) other ≡ true =
    stays old new i carrier (unsigned_abs (product +ℤ pos 640000000) / old.width + 1) other m (h product small n) in
    rw m.width s

pub covers-made : (a b c d : Pairings) (carrier z : ℕ) (value : ℤ) → 0 < a.width → unsigned_abs value ≤ 640000000 → z ≡ unsigned_abs (pos 640000000 -ℤ value) / a.width →
    Marks a b z carrier → Marks b c (z + 1) carrier → Marks c d (z + 2) carrier → Covers d carrier value
covers-made a b c d carrier z value h small e k l m = λ product low near.
    let w : d.width ≡ a.width = omega (arith, k.width, l.width, m.width) in
    let n : unsigned_abs (product +ℤ value) < a.width = omega (arith, near, w) in
    let u = unsigned_abs (product +ℤ pos 640000000) in
    let v = unsigned_abs (pos 640000000 -ℤ value) in
    let p : u < v + a.width = omega (arith, ints, n, low, small) in
    let q : v < u + a.width = omega (arith, ints, n, low, small) in
    let at : has_bit (cell d (u / a.width + 1)) carrier ≡ true = elim (beside u v a.width h p q) [
      | inl r ↦ rw (r, ← e) (stays c d (z + 2) carrier z carrier m (stays b c (z + 1) carrier z carrier l k.marked))
      | inr (inl r) ↦ rw (r, ← e) (stays c d (z + 2) carrier (z + 1) carrier m l.marked)
      | inr (inr r) ↦ rw (r, ← e) m.marked
    ] in
    rw w at

-- ---- what isn't broken

any-asked : (s : Search) (width c : ℕ) → IsReady s → ((d : ℕ) → d < length s.ats.now → asked s.show.now s.kind d ≤ width) → asked s.show.now s.kind c ≤ width
any-asked s width c r h =
    elim (cases_lt c (length s.ats.now)) [
      | inl q ↦ h c q
      | inr q ↦ omega (arith, asked-past s.show.now s.kind c (omega (arith, q, r.carriers)))
    ]

whole : (s : Search) (t : List ℕ) (c d : ℕ) → length t + 2 ≡ roles_of s.kind → partial_of s ((t ++ c ∷ []) ++ d ∷ []) ≡ partial_of s t +ℤ pair_value s c d
whole s t c d n =
    let long : length (t ++ c ∷ []) + 1 ≡ roles_of s.kind = omega (arith, length-append t (c ∷ []), n) in
    let i : length t ≡ roles_of s.kind - 2 = omega (arith, n) in
    let last : (lane_of s.show.now s.ats.now s.kind d).term ≡ get_or (coefficients_of s.kind) (length (t ++ c ∷ [])) (pos 0) *ℤ pos (khz_in s.ats.now d) =
    lane-term s.show.now s.ats.now s.kind (t ++ c ∷ []) d long in
    let own : get_or (coefficients_of s.kind) (length t) (pos 0) *ℤ pos (khz_in s.ats.now c) ≡
    get_or (coefficients_of s.kind) (roles_of s.kind - 2) (pos 0) *ℤ pos (khz_in s.ats.now c) = ap (λ k. get_or (coefficients_of s.kind) k (pos 0) *ℤ pos (khz_in s.ats.now c)) i in
    omega (arith, ints, partial-push s.kind s.ats.now (t ++ c ∷ []) d, partial-push s.kind s.ats.now t c, last, own)

far : (s : Search) (p : Pairings) (t : List ℕ) (c d : ℕ) → IsReady s → ((e : ℕ) → e < length s.ats.now → asked s.show.now s.kind e ≤ p.width) → length t + 2 ≡ roles_of s.kind →
    d < length s.ats.now → Covers p c (pair_value s c d) → has_bit (mask_near p (partial_of s t)) c ≡ false →
    margin_of s.show.now s.kind ((t ++ c ∷ []) ++ d ∷ []) ≤ distance_of s.ats.now s.kind ((t ++ c ∷ []) ++ d ∷ [])
far s p t c d r wide n j covered out =
    let long : length (t ++ c ∷ []) + 1 ≡ roles_of s.kind = omega (arith, length-append t (c ∷ []), n) in
    let first = get_or (t ++ c ∷ []) 0 0 in
    let m : margin_of s.show.now s.kind ((t ++ c ∷ []) ++ d ∷ []) ≤ p.width =
    omega (arith, margin-push s.show.now s.kind (t ++ c ∷ []) d long, first-le s.show.now s.kind first, any-asked s p.width first r wide, wide d j) in
    let e : unsigned_abs (partial_of s t +ℤ pair_value s c d) ≡ distance_of s.ats.now s.kind ((t ++ c ∷ []) ++ d ∷ []) =
    distance-is s.kind s.ats.now ((t ++ c ∷ []) ++ d ∷ []) (partial_of s t +ℤ pair_value s c d) (sym (whole s t c d n)) in
    elim (cases_lt (unsigned_abs (partial_of s t +ℤ pair_value s c d)) p.width) [
      | inl q ↦ absurd (true≢false (sym (covered (partial_of s t) (ready-bound s t r) q) ∙ out))
      | inr q ↦ omega (arith, m, e, q)
    ]

-- carriers are a broken instance
abbrev broken : Search → List ℕ → Bool
broken s t = is_broken s.show.now s.ats.now s.kind t

unplaced : (s : Search) (t u : List ℕ) (c : ℕ) → stands s c ≡ false → broken s (t ++ c ∷ u) ≡ false
unplaced s t u c h = broken-no_candidate s.show.now s.ats.now s.kind (t ++ c ∷ u) (hopeless-unassigned s.show.now s.ats.now s.kind t u c h)

-- two carriers in the last roles that are covered where both have frequencies, and of which the first stands in no cell near
pub unbroken : (s : Search) (p : Pairings) (t : List ℕ) (c d : ℕ) → IsReady s
    → ((e : ℕ) → e < length s.ats.now → asked s.show.now s.kind e ≤ p.width) → length t + 2 ≡ roles_of s.kind → d < length s.ats.now
    → (stands s c ≡ true → stands s d ≡ true → Covers p c (pair_value s c d)) → has_bit (mask_near p (partial_of s t)) c ≡ false
    → is_broken s.show.now s.ats.now s.kind ((t ++ c ∷ []) ++ d ∷ []) ≡ false
unbroken s p t c d r wide n j covered out =
    elim (cases_Bool (stands s c)) [
      | inl e ↦ elim (cases_Bool (stands s d)) [
        | inl f ↦ broken-far s.show.now s.ats.now s.kind ((t ++ c ∷ []) ++ d ∷ []) (far s p t c d r wide n j (covered e f) out)
        | inr f ↦ unplaced s (t ++ c ∷ []) [] d f
      ]
      | inr e ↦ ap (broken s) (append_assoc t (c ∷ []) (d ∷ [])) ∙ unplaced s t (d ∷ []) c e
    ]

-- nothing is broken with a carrier in the last role but one that stands in no cell near
pub quiet-second : (s : Search) (p : Pairings) (t : List ℕ) (c : ℕ) → IsReady s → HasPairs p s → length t + 2 ≡ roles_of s.kind → c < length s.ats.now →
    has_bit (mask_near p (partial_of s t)) c ≡ false → broken_in s (t ++ c ∷ []) (tuples 1 (upto (length s.ats.now))) ≡ []
quiet-second s p t c r h n i out =
    let many = length s.ats.now in
    blank-all _ _ (t ++ c ∷ []) 0 many (λ d j.
    one _ _ ((t ++ c ∷ []) ++ d ∷ []) many (unbroken s p t c d r h.wide n j (h.pairs c d i j) out))
