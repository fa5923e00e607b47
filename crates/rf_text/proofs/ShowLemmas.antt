-- Lines of commands that are added one after another.
use Rattle.std.proofs.Common.{◌≡◌, ◌<◌, ◌≤◌, ◌+◌, ◌-◌, ◌++◌, ◌∙◌, ℕ, List, [], ◌∷◌, Bool, true, false, not, length, length-append, map, filter, take, drop, get_or, length-drop, append-nil}
use Rattle.std.proofs.Common.{append_assoc, arith, refl, sym, ap, if◌then◌else◌, slice_get, Some, Result, Ok, Err, OnOk, get_or-drop, take_all}
use Rattle.std.specs.List.{flat_map, range_with_len}
use Rattle.std.proofs.lemmas.List.{map-append, take_more}
use Rattle.std.proofs.lemmas.List.Elements.{filter-append}
use Rattle.std.proofs.lemmas.Option.{get_or_from_slice_get, slice_get_within}
use Rattle.std.proofs.lemmas.List.Concat.{flat_map-append}
use Rattle.rf_profiles.specs.Range.{Span}
use Rattle.rf_profiles.specs.declared.profile.Profile.{Profile}
use Rattle.rf_zones.specs.Zones.{ZonesData, coupling_of}
use Rattle.rf_zones.specs.contracts.coupling.Coupling.{the_type}
use Rattle.rf_zones.specs.declared.coupling.Coupling.TheVariants.{Apart, Coupled, Far}
use denote.Enum.Bare.{sameb}
use Rattle.rf_zones.specs.declared.coupling.Coupling.{Coupling}
use Rattle.rf_text.specs.declared.command.Command.{Command}
use Rattle.rf_text.specs.declared.command.Command.TheVariants.{Change}
use Rattle.rf_text.specs.declared.command_lines.CommandLines.{CommandLines}
use Rattle.rf_text.specs.Shows.{Adds, coupling_edit, first_range_line, pair_line, pairs_with, range_line, ranges_lines, same_coupling, stand, zone_line}
use Rattle.rf_profiles.proofs.RunLaws.{range_parts}
use Rattle.rf_base.proofs.BoolLaws.{not_is}

-- some lines, and then others
pub adds_both : (old next new : CommandLines) (commands more : List Command) → Adds old next commands → Adds next new more → Adds old new (commands ++ more)
adds_both old next new commands more a b =
    record {
      text = rw (b.text, a.text) (simp (flat_map-append, append_assoc) refl);
      count = omega (arith, a.count, b.count, length-append commands more);
      counted = b.counted;
    }

-- the line of one element more
pub adds_one : {X : Type 0} (old next new : CommandLines) (f : X → Command) (xs : List X) (index : ℕ) (x : X) → index < length xs
    → Adds old next (map f (take index xs)) → Adds next new (f (get_or xs index x) ∷ []) → Adds old new (map f (take (index + 1) xs))
adds_one old next new f xs index x inside a b =
    rw (take_more xs index x inside, map-append) (adds_both old next new (map f (take index xs)) (f (get_or xs index x) ∷ []) a b)

-- ---- zones

both : {X Y : Type 0} (f : X → Y) (test : Bool) (xs : List X) (x : X) → map f (xs ++ (if test then x ∷ [] else [])) ≡ map f xs ++ (if test then f x ∷ [] else [])
both f true xs x = map-append f xs (x ∷ [])
both f false xs x = rw (append-nil xs) (sym (append-nil (map f xs)))

-- one zone more
pub zones_more : (old next new : CommandLines) (names : List (List ℕ)) (z : ℕ) (name : List ℕ) → 1 ≤ z → slice_get names z ≡ Some name
    → Adds old next (map zone_line (take (z - 1) (drop 1 names))) → Adds next new (zone_line name ∷ [])
    → Adds old new (map zone_line (take (z + 1 - 1) (drop 1 names)))
zones_more old next new names z name low is a b =
    let index : z + 1 - 1 ≡ z - 1 + 1 = omega arith in
    let place : 1 + (z - 1) ≡ z = omega arith in
    let long = length-drop 1 names in
    let here : get_or (drop 1 names) (z - 1) name ≡ name =
    get_or-drop 1 names (z - 1) name ∙ ap (λ i. get_or names i name) place ∙ get_or_from_slice_get names z name name is in
    rw index (adds_one old next new zone_line (drop 1 names) (z - 1) name (omega (arith, long, slice_get_within names z name is)) a (rw here b))

same_as : (c d : Coupling) → sameb the_type c d ≡ same_coupling c d
same_as Apart Apart = refl
same_as Coupled Coupled = refl
same_as Far Far = refl
same_as _ _ = refl

-- what the code's comparison says of two zones
pub stands_as : (c d : Coupling) (zones : ZonesData) (a b : ℕ) (differ : Bool) → d ≡ coupling_of zones a b → not (sameb the_type d c) ≡ differ → stand c zones a b ≡ not differ
stands_as c d zones a b differ is h = rw (← is, ← same_as d c) (not_is (sameb the_type d c) differ h)

-- the lines with the zones before one, and with it
pub pairs_more : (c : Coupling) (zones : ZonesData) (a b : ℕ) → a + 1 ≤ b
    → map (pair_line c zones a) (filter (stand c zones a) (range_with_len (a + 1) (b + 1 - (a + 1))))
    ≡ map (pair_line c zones a) (filter (stand c zones a) (range_with_len (a + 1) (b - (a + 1))))
    ++ (if stand c zones a b then pair_line c zones a b ∷ [] else [])
pairs_more c zones a b h =
    let parts = range_parts (a + 1) (b - (a + 1)) 1 (b + 1 - (a + 1)) b (omega arith) (omega arith) in
    rw (parts, filter-append) (both (pair_line c zones a) (stand c zones a b) (filter (stand c zones a) (range_with_len (a + 1) (b - (a + 1)))) b)

-- a zone that stands so
pub pair_more : (c : Coupling) (old next new : CommandLines) (zones : ZonesData) (a b : ℕ) (name other : List ℕ) → a + 1 ≤ b → stand c zones a b ≡ true
    → slice_get zones.names a ≡ Some name → slice_get zones.names b ≡ Some other
    → Adds old next (map (pair_line c zones a) (filter (stand c zones a) (range_with_len (a + 1) (b - (a + 1)))))
    → Adds next new (Change (coupling_edit c name other) ∷ [])
    → Adds old new (map (pair_line c zones a) (filter (stand c zones a) (range_with_len (a + 1) (b + 1 - (a + 1)))))
pair_more c old next new zones a b name other h is first second x y =
    let one = get_or_from_slice_get zones.names a name [] first in
    let two = get_or_from_slice_get zones.names b other [] second in
    rw (pairs_more c zones a b h, is, one, two) (adds_both old next new _ (Change (coupling_edit c name other) ∷ []) x y)

-- a zone that does not
pub no_pair_more : (c : Coupling) (old next : CommandLines) (zones : ZonesData) (a b : ℕ) → a + 1 ≤ b → stand c zones a b ≡ false
    → Adds old next (map (pair_line c zones a) (filter (stand c zones a) (range_with_len (a + 1) (b - (a + 1)))))
    → Adds old next (map (pair_line c zones a) (filter (stand c zones a) (range_with_len (a + 1) (b + 1 - (a + 1)))))
no_pair_more c old next zones a b h is x = rw (pairs_more c zones a b h, is, append-nil) x

-- the pairs of one zone more
pub pairs_with_more : (c : Coupling) (old next new : CommandLines) (zones : ZonesData) (a : ℕ) → Adds old next (flat_map (pairs_with c zones) (range_with_len 0 a))
    → Adds next new (pairs_with c zones a) → Adds old new (flat_map (pairs_with c zones) (range_with_len 0 (a + 1)))
pairs_with_more c old next new zones a x y =
    let parts = range_parts 0 a 1 (a + 1) a refl (omega arith) in
    rw (parts, flat_map-append, append-nil) (adds_both old next new _ (pairs_with c zones a) x y)

-- ---- profiles

pub ranges_split : (p : Profile) (ranges : List Span) (d : Span) → 1 ≤ length ranges
    → ranges_lines p ranges ≡ first_range_line p (get_or ranges 0 d) ∷ map (range_line p.name) (take (length ranges - 1) (drop 1 ranges))
ranges_split p [] d h = absurd (omega arith)
ranges_split p (r ∷ ranges) d h = let all = take_all (length (r ∷ ranges) - 1) ranges (omega arith) in rw all refl

pub on_ok : {T E : Type 0} {P Q : Type 0} (result : Result T E) → (P → Q) → OnOk result P → OnOk result Q
on_ok (Ok x) f h = f h
on_ok (Err e) f h = tt
