-- Locks are given up, one carrier after another.
use Rattle.std.proofs.Common.{◌≡◌, ℕ, zero, suc, ◌+◌, ◌<◌, ◌≤◌, Bool, true, false, not, ◌&&◌, ◌||◌, cond, find, List, [], ◌∷◌, Option, Some, get_or, length, refl, ap, sym, ◌∙◌, arith}
use Rattle.std.specs.Prelude.{IsTrue, is_some, slice_get, nat_le}
use Rattle.std.specs.List.{list_any}
use Rattle.std.proofs.lemmas.Bool.{and_parts, or_parts, not-true, or_right}
use Rattle.std.proofs.lemmas.Bool.Decides.{nat_tests}
use Rattle.rf_base.specs.Name.{same_name}
use Rattle.rf_log.specs.Case.{is_among}
use Rattle.rf_profiles.specs.Profile.{differ}
use Rattle.rf_show.specs.After.{change_first, edited}
use Rattle.rf_show.specs.Show.{ShowData, carrier_names, has_carrier, is_carrier, is_show}
use Rattle.rf_show.specs.declared.carrier.Carrier.{Carrier}
use Rattle.rf_show.specs.declared.edit.Edit.TheVariants.{Unlock}
use Rattle.rf_tighter.specs.Locked.{kept, locked_from}
use Rattle.rf_core.specs.Unlocking.{eased_below, is_left}
use mathlib.Core.Bool.{and-false}
use Rattle.rf_base.proofs.NameLaws.{own_name}
use Rattle.rf_show.proofs.KeptLaws.{names_differ}

abbrev unlocked : Carrier → Carrier
unlocked c = record c { locked = false }

abbrev held_by : Bool → Carrier → Carrier
held_by keep c = record c { locked = c.locked && keep }

-- ---- names

some_if : {X : Type 0} (b : Bool) (x : X) (o : Option X) → is_some o ≡ true → is_some (cond b (Some x) o) ≡ true
some_if true x o h = refl
some_if false x o h = h

some_here : {X : Type 0} (b : Bool) (x : X) (o : Option X) → b ≡ true → is_some (cond b (Some x) o) ≡ true
some_here true x o h = refl
some_here false x o h = cc

-- a carrier is found by its name, whichever locks are left
pub has-locked : (place : ℕ) (f : ℕ → Bool) (cs : List Carrier) (i : ℕ) (c : Carrier) → slice_get cs i ≡ Some c → has_carrier (locked_from place f cs) c.name ≡ true
has-locked place f [] zero c e = cc
has-locked place f [] (suc i) c e = cc
has-locked place f (x ∷ xs) zero c e =
    let same : x ≡ c = cc in
    some_here (same_name x.name c.name) (held_by (f place) x) (find (is_carrier c.name) (locked_from (place + 1) f xs))
    (ap (λ (y : Carrier). same_name y.name c.name) same ∙ own_name c.name)
has-locked place f (x ∷ xs) (suc i) c e =
    some_if (same_name x.name c.name) (held_by (f place) x) (find (is_carrier c.name) (locked_from (place + 1) f xs)) (has-locked (place + 1) f xs i c e)

-- ---- one carrier less

none-at : (q : List ℕ → Bool) (cs : List Carrier) (i : ℕ) (c : Carrier) → list_any q (carrier_names cs) ≡ false → slice_get cs i ≡ Some c → q c.name ≡ false
none-at q [] zero c h e = cc
none-at q [] (suc i) c h e = cc
none-at q (x ∷ xs) zero c h e = let same : x ≡ c = cc in sym (ap (λ (y : Carrier). q y.name) same) ∙ (or_parts (q x.name) _ h).0
none-at q (x ∷ xs) (suc i) c h e = none-at q xs i c (or_parts (q x.name) _ h).1 e

locked-same : (place : ℕ) (f g : ℕ → Bool) (cs : List Carrier) → ((j : ℕ) → place ≤ j → j < place + length cs → f j ≡ g j) → locked_from place f cs ≡ locked_from place g cs
locked-same place f g [] h = refl
locked-same place f g (c ∷ cs) h =
    ap (λ b. held_by b c ∷ locked_from (place + 1) f cs) (h place (omega arith) (omega arith))
    ∙ ap (λ xs. held_by (g place) c ∷ xs) (locked-same (place + 1) f g cs (λ j low high. h j (omega (arith, low)) (omega (arith, high))))

-- the edit of one carrier makes the show with one lock fewer
unlock-step : (place : ℕ) (f g : ℕ → Bool) (cs : List Carrier) (i : ℕ) (c : Carrier) → differ (carrier_names cs) ≡ true → slice_get cs i ≡ Some c
    → ((j : ℕ) → (j ≡ place + i → ⊥) → f j ≡ g j) → g (place + i) ≡ false → change_first (is_carrier c.name) unlocked (locked_from place f cs) ≡ locked_from place g cs
unlock-step place f g [] zero c d e h gone = cc
unlock-step place f g [] (suc i) c d e h gone = cc
unlock-step place f g (x ∷ xs) zero c d e h gone =
    let same : x ≡ c = cc in
    let rest = change_first (is_carrier c.name) unlocked (locked_from (place + 1) f xs) in
    ap (λ b. cond b (unlocked x ∷ locked_from (place + 1) f xs) (held_by (f place) x ∷ rest)) (ap (λ (y : Carrier). same_name y.name c.name) same ∙ own_name c.name)
    ∙ ap (λ b. record x { locked = b } ∷ locked_from (place + 1) f xs) (sym (ap (λ b. x.locked && b) (ap g (omega arith) ∙ gone) ∙ and-false x.locked))
    ∙ ap (λ ys. held_by (g place) x ∷ ys) (locked-same (place + 1) f g xs (λ j low high. h j (λ at. absurd (omega (arith, at, low)))))
unlock-step place f g (x ∷ xs) (suc i) c d e h gone =
    let parts = and_parts (not (list_any (same_name x.name) (carrier_names xs))) _ d in
    let other = none-at (same_name x.name) xs i c (not-true _ parts.0) e in
    let rest = change_first (is_carrier c.name) unlocked (locked_from (place + 1) f xs) in
    ap (λ b. cond b (unlocked x ∷ locked_from (place + 1) f xs) (held_by (f place) x ∷ rest)) other
    ∙ ap (λ b. held_by b x ∷ rest) (h place (λ at. absurd (omega (arith, at))))
    ∙ ap (λ ys. held_by (g place) x ∷ ys)
    (unlock-step (place + 1) f g xs i c parts.1 e (λ j off. h j (λ at. off (omega (arith, at)))) (ap g (omega arith) ∙ gone))

-- ---- one place further

or_same : (a b c : Bool) → (a ≡ false → b ≡ c) → (a || b) ≡ (a || c)
or_same true b c h = refl
or_same false b c h = h refl

le-further : (i j : ℕ) → (j ≡ i → ⊥) → nat_le i j ≡ nat_le (i + 1) j
le-further i j off = grind (arith, nat_tests, off)

le-next : (i : ℕ) → nat_le (i + 1) i ≡ false
le-next i = grind (arith, nat_tests)

le-past : (n j : ℕ) → j < n → nat_le n j ≡ false
le-past n j low = grind (arith, nat_tests, low)

or_none_right : (a b : Bool) → b ≡ false → (a || b) ≡ a
or_none_right true b h = refl
or_none_right false b h = h

off-kept : (keep : List ℕ) (i j : ℕ) → is_among keep i ≡ true → is_among keep j ≡ false → j ≡ i → ⊥
off-kept keep i j there gone at = clash _ (sym (ap (is_among keep) at) ∙ gone) there
  where
    clash : (b : Bool) → b ≡ false → b ≡ true → ⊥
    clash true e t = cc
    clash false e t = cc

le-first : (j : ℕ) → nat_le 0 j ≡ true
le-first j = grind (arith, nat_tests)

-- before the first carrier nothing is given up
pub eased-first : (keep : List ℕ) (c : ℕ) → is_left keep 0 c ≡ true
eased-first keep c = or_right (is_among keep c) _ (le-first c)

-- the carrier at a place that is there
pub got : (cs : List Carrier) (i : ℕ) (c : Carrier) → i < length cs → c ≡ get_or cs i c → slice_get cs i ≡ Some c
got [] i c low e = absurd (omega (arith, low))
got (x ∷ xs) zero c low e = ap Some (sym e)
got (x ∷ xs) (suc i) c low e = got xs i c (omega (arith, low)) e

-- a carrier that is kept stays as it is
pub eased-kept : (show : ShowData) (keep : List ℕ) (i : ℕ) → is_among keep i ≡ true → eased_below show keep i ≡ eased_below show keep (i + 1)
eased-kept show keep i there =
    ap (λ cs. record show { carriers = cs })
    (locked-same 0 (is_left keep i) (is_left keep (i + 1)) show.carriers
    (λ j low high. or_same (is_among keep j) _ _ (λ gone. le-further i j (off-kept keep i j there gone))))

-- a carrier that isn't kept is unlocked
pub eased-given : (show : ShowData) (keep : List ℕ) (i : ℕ) (c : Carrier) → IsTrue (is_show show) → slice_get show.carriers i ≡ Some c → is_among keep i ≡ false
    → edited (eased_below show keep i) (Unlock c.name) ≡ eased_below show keep (i + 1)
eased-given show keep i c form e gone =
    ap (λ cs. record show { carriers = cs })
    (unlock-step 0 (is_left keep i) (is_left keep (i + 1)) show.carriers i c (names_differ show form) e
    (λ j off. ap (λ b. is_among keep j || b) (le-further i j (λ at. off (omega (arith, at)))))
    (ap (is_left keep (i + 1)) (omega arith) ∙ or_none_right _ _ (le-next i) ∙ gone))

-- behind the last carrier all others are given up
pub eased-last : (show : ShowData) (keep : List ℕ) (i : ℕ) → length show.carriers ≤ i → eased_below show keep i ≡ kept show keep
eased-last show keep i past =
    ap (λ cs. record show { carriers = cs })
    (locked-same 0 (is_left keep i) (is_among keep) show.carriers
    (λ j low high. or_none_right (is_among keep j) _ (le-past i j (omega (arith, past, high)))))
