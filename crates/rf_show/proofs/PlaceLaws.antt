use Rattle.std.proofs.Common.{◌≡◌, ℕ, zero, suc, ◌+◌, ◌<◌, Bool, true, false, not, ◌&&◌, ◌||◌, Option, Some, None, is_some, List, [], ◌∷◌, length, get_or, set, map, refl, ap, sym, ◌∙◌, arith, add-one}
use Rattle.std.specs.List.{list_all}
use Rattle.std.proofs.lemmas.List.{get_or_default}
use Rattle.rf_show.specs.declared.carrier.Carrier.{Carrier}
use Rattle.rf_show.specs.After.{placed}
use Rattle.rf_show.specs.Reasons.{moves_locked, same_at}
use Rattle.rf_show.specs.Show.{is_steady}
use Rattle.std.proofs.lemmas.Bool.{or_parts, and_from, and_parts}

-- the carriers, the first i of them at the new frequencies
abbrev pub placed_to : ℕ → List Carrier → List (Option ℕ) → List Carrier
placed_to zero cs ats = cs
placed_to (suc i) [] ats = []
placed_to (suc i) (c ∷ cs) [] = c ∷ cs
placed_to (suc i) (c ∷ cs) (at ∷ ats) = record c { at = at } ∷ placed_to i cs ats

-- the new frequencies, the first i of them replaced by the old ones
abbrev pub taken_to : ℕ → List Carrier → List (Option ℕ) → List (Option ℕ)
taken_to zero cs ats = ats
taken_to (suc i) [] ats = ats
taken_to (suc i) (c ∷ cs) [] = []
taken_to (suc i) (c ∷ cs) (at ∷ ats) = c.at ∷ taken_to i cs ats

pub placed_more : (i : ℕ) (cs : List Carrier) (ats : List (Option ℕ)) (c : Carrier) (at : Option ℕ) → i < length cs → length ats ≡ length cs →
    c ≡ get_or (placed_to i cs ats) i c → at ≡ get_or (taken_to i cs ats) i at → set (placed_to i cs ats) i (record c { at = at }) ≡ placed_to (suc i) cs ats
placed_more i [] ats c at h l e f = absurd (omega arith)
placed_more i (x ∷ cs) [] c at h l e f = absurd (omega arith)
placed_more zero (x ∷ cs) (y ∷ ats) c at h l e f = ap (λ (q : Carrier). record q { at = at } ∷ cs) e ∙ ap (λ q. record x { at = q } ∷ cs) f
placed_more (suc i) (x ∷ cs) (y ∷ ats) c at h l e f = ap (λ q. record x { at = y } ∷ q) (placed_more i cs ats c at (omega arith) (omega arith) e f)

pub taken_more : (i : ℕ) (cs : List Carrier) (ats : List (Option ℕ)) (c : Carrier) → i < length cs →
    length ats ≡ length cs → c ≡ get_or (placed_to i cs ats) i c → set (taken_to i cs ats) i c.at ≡ taken_to (suc i) cs ats
taken_more i [] ats c h l e = absurd (omega arith)
taken_more i (x ∷ cs) [] c h l e = absurd (omega arith)
taken_more zero (x ∷ cs) (y ∷ ats) c h l e = ap (λ (q : Carrier). q.at ∷ ats) e
taken_more (suc i) (x ∷ cs) (y ∷ ats) c h l e = ap (λ q. x.at ∷ q) (taken_more i cs ats c (omega arith) (omega arith) e)

pub placed_all : (cs : List Carrier) (ats : List (Option ℕ)) → length ats ≡ length cs → placed_to (length cs) cs ats ≡ placed cs ats
placed_all [] ats l = refl
placed_all (c ∷ cs) [] l = refl
placed_all (c ∷ cs) (at ∷ ats) l = ap (λ q. record c { at = at } ∷ q) (placed_all cs ats (omega arith))

pub taken_all : (cs : List Carrier) (ats : List (Option ℕ)) → length ats ≡ length cs → taken_to (length cs) cs ats ≡ map (λ c. c.at) cs
taken_all [] [] l = refl
taken_all [] (at ∷ ats) l = absurd (omega arith)
taken_all (c ∷ cs) [] l = absurd (omega arith)
taken_all (c ∷ cs) (at ∷ ats) l = ap (λ q. c.at ∷ q) (taken_all cs ats (omega arith))

pub length-placed : (cs : List Carrier) (ats : List (Option ℕ)) → length (placed cs ats) ≡ length cs
length-placed [] ats = refl
length-placed (c ∷ cs) [] = refl
length-placed (c ∷ cs) (at ∷ ats) = ap suc (length-placed cs ats)

pub placed_back : (cs : List Carrier) (ats : List (Option ℕ)) → length ats ≡ length cs → placed (placed cs ats) (map (λ c. c.at) cs) ≡ cs
placed_back [] ats l = refl
placed_back (c ∷ cs) [] l = absurd (omega arith)
placed_back (c ∷ cs) (at ∷ ats) l = ap (λ q. c ∷ q) (placed_back cs ats (omega arith))

-- what doesn't read the frequency is as before
pub map-placed : {Y : Type 0} (g : Carrier → Y) (cs : List Carrier) (ats : List (Option ℕ)) → ((c : Carrier) (at : Option ℕ) → g (record c { at = at }) ≡ g c) → map g (placed cs ats) ≡ map g cs
map-placed g [] ats e = refl
map-placed g (c ∷ cs) [] e = refl
map-placed g (c ∷ cs) (at ∷ ats) e = ap (λ y. y ∷ map g (placed cs ats)) (e c at) ∙ ap (λ ys. g c ∷ ys) (map-placed g cs ats e)

pub list_all-placed : (q : Carrier → Bool) (cs : List Carrier) (ats : List (Option ℕ)) → ((c : Carrier) (at : Option ℕ) → q (record c { at = at }) ≡ q c) → list_all q (placed cs ats) ≡ list_all q cs
list_all-placed q [] ats e = refl
list_all-placed q (c ∷ cs) [] e = refl
list_all-placed q (c ∷ cs) (at ∷ ats) e = ap (λ b. b && list_all q (placed cs ats)) (e c at) ∙ ap (λ b. q c && b) (list_all-placed q cs ats e)

steady_at : (locked : Bool) (old new : Option ℕ) → (not locked || is_some old) ≡ true → (locked && not (same_at old new)) ≡ false → (not locked || is_some new) ≡ true
steady_at false old new h k = refl
steady_at true None new h k = cc
steady_at true (Some f) None h k = cc
steady_at true (Some f) (Some g) h k = refl

-- where no locked carrier moves, those that are locked have frequencies
pub placed_steady : (cs : List Carrier) (ats : List (Option ℕ)) → list_all is_steady cs ≡ true → moves_locked cs ats ≡ false → list_all is_steady (placed cs ats) ≡ true
placed_steady [] ats h k = refl
placed_steady (c ∷ cs) [] h k = h
placed_steady (c ∷ cs) (at ∷ ats) h k =
    let all = and_parts _ _ h in
    let none = or_parts _ _ k in
    and_from _ _ (steady_at c.locked c.at at all.0 none.0) (placed_steady cs ats all.1 none.1)

-- one turn of the loop that swaps them
pub placed_step : (cs xs : List Carrier) (ats ys : List (Option ℕ)) (i : ℕ) (d : Carrier) (at : Option ℕ) → i < length cs → i < length xs → length ats ≡ length cs →
    xs ≡ placed_to i cs ats → ys ≡ taken_to i cs ats → at ≡ get_or ys i at → set xs i (record (get_or xs i d) { at = at }) ≡ placed_to (i + 1) cs ats
placed_step cs xs ats ys i d at h hx l ex ey f =
    let c : Carrier = get_or xs i d in
    let is : c ≡ get_or (placed_to i cs ats) i c = get_or_default xs i d c hx ∙ ap (λ q. get_or q i c) ex in
    ap (λ q. set q i (record c { at = at })) ex
    ∙ placed_more i cs ats c at h l is (f ∙ ap (λ q. get_or q i at) ey)
    ∙ ap (λ n. placed_to n cs ats) (sym (add-one i))

pub taken_step : (cs xs : List Carrier) (ats ys : List (Option ℕ)) (i : ℕ) (d : Carrier) → i < length cs → i < length xs →
    length ats ≡ length cs → xs ≡ placed_to i cs ats → ys ≡ taken_to i cs ats → set ys i (get_or xs i d).at ≡ taken_to (i + 1) cs ats
taken_step cs xs ats ys i d h hx l ex ey =
    let c : Carrier = get_or xs i d in
    let is : c ≡ get_or (placed_to i cs ats) i c = get_or_default xs i d c hx ∙ ap (λ q. get_or q i c) ex in
    ap (λ q. set q i c.at) ey ∙ taken_more i cs ats c h l is ∙ ap (λ n. taken_to n cs ats) (sym (add-one i))
