-- Lists of locks, and what is left when one is taken away.
use Rattle.std.proofs.Common.{◌≡◌, ℕ, zero, suc, ◌+◌, ◌<◌, ◌≤◌, Bool, true, false, ◌||◌, cond, List, [], ◌∷◌, length, get_or, remove, Some, refl, ap, sym, subst, ◌∙◌, arith}
use Rattle.std.specs.Prelude.{IsTrue, slice_get, ◌==◌}
use Rattle.std.specs.Option.{option_map_or}
use Rattle.std.proofs.Math.Path.{fun_ext}
use Rattle.std.proofs.lemmas.Bool.{eq-eqb, eqb-true, ne_eqb, or_right, or_left, or_from}
use Rattle.rf_log.specs.Case.{is_among}
use Rattle.rf_show.specs.Show.{ShowData}
use Rattle.rf_show.specs.declared.carrier.Carrier.{Carrier}
use Rattle.rf_tighter.specs.Locked.{locked_to, kept}
use Rattle.rf_core.specs.Blocking.{AreLocks, is_locked_at, locks_from, locks_of}
use Rattle.rf_base.proofs.BoolLaws.{or_swap}
use Rattle.rf_tighter.proofs.LockedLaws.{all-locked}

-- ---- tests

or_more : (a b c : Bool) → (b ≡ true → c ≡ true) → (a || b) ≡ true → (a || c) ≡ true
or_more true b c f h = refl
or_more false b c f h = f h

-- ---- a list without one item

pub among-remove : (xs : List ℕ) (i c : ℕ) → is_among (remove xs i) c ≡ true → is_among xs c ≡ true
among-remove [] zero c h = h
among-remove [] (suc i) c h = h
among-remove (x ∷ xs) zero c h = or_right (x == c) _ h
among-remove (x ∷ xs) (suc i) c h = or_more (x == c) _ _ (among-remove xs i c) h

-- without two items, and without one of them
pub among-both : (xs : List ℕ) (at i c : ℕ) → i < at → is_among (remove (remove xs at) i) c ≡ true → is_among (remove xs i) c ≡ true
among-both xs zero i c low h = absurd (omega (arith, low))
among-both [] (suc at) zero c low h = h
among-both [] (suc at) (suc i) c low h = h
among-both (x ∷ xs) (suc at) zero c low h = among-remove xs at c h
among-both (x ∷ xs) (suc at) (suc i) c low h = or_more (x == c) _ _ (among-both xs at i c (omega (arith, low))) h

pub length-without : (xs : List ℕ) (i : ℕ) → i < length xs → suc (length (remove xs i)) ≡ length xs
length-without [] i low = absurd (omega (arith, low))
length-without (x ∷ xs) zero low = refl
length-without (x ∷ xs) (suc i) low = ap (λ n. suc n) (length-without xs i (omega (arith, low)))

-- put back at the head, it makes the same set
pub among-back : (xs : List ℕ) (i c y : ℕ) → i < length xs → y ≡ get_or xs i y → is_among (y ∷ remove xs i) c ≡ is_among xs c
among-back [] i c y low e = absurd (omega (arith, low))
among-back (x ∷ xs) zero c y low e = ap (λ z. (z == c) || is_among xs c) e
among-back (x ∷ xs) (suc i) c y low e =
    or_swap (y == c) (x == c) (is_among (remove xs i) c)
    ∙ ap (λ b. (x == c) || b) (among-back xs i c y (omega (arith, low)) e)

-- what is in the list but isn't this item is in what is left
pub among-other : (xs : List ℕ) (i c y : ℕ) → i < length xs → y ≡ get_or xs i y → (y ≡ c → ⊥) → is_among xs c ≡ true → is_among (remove xs i) c ≡ true
among-other xs i c y low e other h = drop_false (y == c) _ (ne_eqb y c other) (among-back xs i c y low e ∙ h)
  where
    drop_false : (a b : Bool) → a ≡ false → (a || b) ≡ true → b ≡ true
    drop_false true b f t = cc
    drop_false false b f t = t

-- the place of an item that is in the list
pub place-of : (xs : List ℕ) (c : ℕ) → is_among xs c ≡ true → (i : ℕ) × (i < length xs) × (c ≡ get_or xs i c)
place-of [] c h = cc
place-of (x ∷ xs) c h = by_test (x == c) refl h (place-of xs c)
  where
    by_test : (b : Bool) → (x == c) ≡ b → (b || is_among xs c) ≡ true → (is_among xs c ≡ true → (i : ℕ) × (i < length xs) × (c ≡ get_or xs i c))
        → (i : ℕ) × (i < length (x ∷ xs)) × (c ≡ get_or (x ∷ xs) i c)
    by_test true e t further = (0, omega arith, sym (eqb-true x c e))
    by_test false e t further = let rest = further t in (suc rest.0, omega (arith, rest.1), rest.2)

-- ---- locks in order

locks-low : (show : ShowData) (less from : ℕ) (xs : List ℕ) → less ≤ from → AreLocks show from xs → AreLocks show less xs
locks-low show less from [] low h = tt
locks-low show less from (x ∷ xs) low h = (omega (arith, low, h.0), h.1, h.2)

pub locks-remove : (show : ShowData) (from : ℕ) (xs : List ℕ) (i : ℕ) → AreLocks show from xs → AreLocks show from (remove xs i)
locks-remove show from [] zero h = tt
locks-remove show from [] (suc i) h = tt
locks-remove show from (x ∷ xs) zero h = locks-low show from (x + 1) xs (omega (arith, h.0)) h.2
locks-remove show from (x ∷ xs) (suc i) h = (h.0, h.1, locks-remove show (x + 1) xs i h.2)

not-below : (show : ShowData) (from c : ℕ) (xs : List ℕ) → c < from → AreLocks show from xs → is_among xs c ≡ false
not-below show from c [] low h = refl
not-below show from c (x ∷ xs) low h =
    or_from (x == c) _ (ne_eqb x c (λ same. absurd (omega (arith, same, low, h.0)))) (not-below show (x + 1) c xs (omega (arith, low, h.0)) h.2)

-- the item that is taken away is locked, and it is gone
pub lost-lock : (show : ShowData) (from : ℕ) (xs : List ℕ) (i y : ℕ) → AreLocks show from xs → i < length xs → y ≡ get_or xs i y
    → (from ≤ y) × IsTrue (is_locked_at show y) × (is_among (remove xs i) y ≡ false)
lost-lock show from [] i y h low e = absurd (omega (arith, low))
lost-lock show from (x ∷ xs) zero y h low e =
    let same : x ≡ y = sym e in
    (omega (arith, same, h.0), subst (λ n. IsTrue (is_locked_at show n)) same h.1, not-below show (x + 1) y xs (omega (arith, same)) h.2)
lost-lock show from (x ∷ xs) (suc i) y h low e =
    let rest = lost-lock show (x + 1) xs i y h.2 (omega (arith, low)) e in
    (omega (arith, h.0, rest.0), rest.1, or_from (x == y) _ (ne_eqb x y (λ same. absurd (omega (arith, same, rest.0)))) rest.2)

-- ---- all locks

add-lock : (show : ShowData) (place : ℕ) (b : Bool) (rest : List ℕ) → (b ≡ true → IsTrue (is_locked_at show place)) → AreLocks show (place + 1) rest → AreLocks show place (cond b (place ∷ rest) rest)
add-lock show place true rest h all = (omega arith, h refl, all)
add-lock show place false rest h all = locks-low show place (place + 1) rest (omega arith) all

locks-from : (show : ShowData) (place : ℕ) (cs : List Carrier) → ((i : ℕ) (c : Carrier) → slice_get cs i ≡ Some c → slice_get show.carriers (place + i) ≡ Some c)
    → AreLocks show place (locks_from place cs)
locks-from show place [] h = tt
locks-from show place (c ∷ cs) h =
    add-lock show place c.locked (locks_from (place + 1) cs)
    (λ locked. ap (λ o. option_map_or (λ (x : Carrier). x.locked) o false) (ap (λ n. slice_get show.carriers n) (omega arith) ∙ h 0 c refl) ∙ locked)
    (locks-from show (place + 1) cs (λ i d e. ap (λ n. slice_get show.carriers n) (omega arith) ∙ h (suc i) d e))

pub locks-are : (show : ShowData) → AreLocks show 0 (locks_of show)
locks-are show = locks-from show 0 show.carriers (λ i c e. ap (λ n. slice_get show.carriers n) (omega arith) ∙ e)

among-cond : (b : Bool) (place c : ℕ) (rest : List ℕ) → is_among rest c ≡ true → is_among (cond b (place ∷ rest) rest) c ≡ true
among-cond true place c rest h = or_right (place == c) _ h
among-cond false place c rest h = h

among-here : (b : Bool) (place c : ℕ) (rest : List ℕ) → b ≡ true → place ≡ c → is_among (cond b (place ∷ rest) rest) c ≡ true
among-here true place c rest h same = or_left (place == c) _ (eq-eqb place c same)
among-here false place c rest h same = cc

among-locks : (place : ℕ) (cs : List Carrier) (i : ℕ) (c : Carrier) → slice_get cs i ≡ Some c → c.locked ≡ true → is_among (locks_from place cs) (place + i) ≡ true
among-locks place [] zero c e locked = cc
among-locks place [] (suc i) c e locked = cc
among-locks place (d ∷ cs) zero c e locked =
    let same : d ≡ c = cc in
    among-here d.locked place (place + 0) (locks_from (place + 1) cs) (ap (λ (x : Carrier). x.locked) same ∙ locked) (omega arith)
among-locks place (d ∷ cs) (suc i) c e locked =
    among-cond d.locked place (place + suc i) (locks_from (place + 1) cs)
    (subst (λ n. is_among (locks_from (place + 1) cs) n ≡ true) (omega arith) (among-locks (place + 1) cs i c e locked))

pub kept-all : (show : ShowData) → kept show (locks_of show) ≡ show
kept-all show =
    ap (λ cs. record show { carriers = cs }) (all-locked 0 (is_among (locks_of show)) show.carriers (λ i c e locked. among-locks 0 show.carriers i c e locked))

-- the same set makes the same show
pub kept-same : (show : ShowData) (xs ys : List ℕ) → ((c : ℕ) → is_among xs c ≡ is_among ys c) → kept show xs ≡ kept show ys
kept-same show xs ys h = ap (λ (f : ℕ → Bool). locked_to show f) (fun_ext h)
