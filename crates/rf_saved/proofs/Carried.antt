-- The lines that are read back, over the show that they were written for, are the lines that were written, but for roles
-- beyond those of a rule's kind.
use Rattle.std.proofs.Common.{◌≡◌, ◌∙◌, ℕ, zero, suc, ◌<◌, List, [], ◌∷◌, Bool, true, false, cond, not, length, map, take, get_or, refl, ap, sym, arith}
use Rattle.std.specs.List.{All, AllZip, count_by, list_any, position_or_len}
use Rattle.std.specs.Cmp.Lexicographic.{bytes_decides}
use Rattle.std.proofs.lemmas.Bool.{and_parts, or_parts, not-true}
use Rattle.std.proofs.lemmas.List.{get_or-map, length-map, map-id, take-map}
use Rattle.rf_base.specs.Name.{same_name}
use Rattle.rf_profiles.specs.Profile.{differ}
use Rattle.rf_terms.specs.Kinds.{roles_of}
use Rattle.rf_log.specs.declared.cond.Cond.{Cond}
use Rattle.rf_log.specs.declared.hint.Hint.{Hint}
use Rattle.rf_log.specs.declared.hint.Hint.TheVariants.{Earlier, Ban, Rule}
use Rattle.rf_log.specs.declared.line.LogLine.{LogLine}
use Rattle.rf_log.specs.declared.line.LogLine.TheVariants.{Nogood, Branch, Up}
use Rattle.rf_log.specs.LineTexts.{name_at}
use Rattle.rf_log.specs.LogText.{LogData, IsCondBelow, IsHintBelow, IsLineBelow}
use Rattle.rf_log.specs.Walk.{is_branch}
use Rattle.rf_readback.specs.Same.{IsSameCarrier, IsSameCond, IsSameHint, IsSameLine}
use Rattle.rf_show.specs.Show.{ShowData, carrier_names, is_carrier}
use Rattle.rf_show.specs.declared.carrier.Carrier.{Carrier}
use Rattle.rf_checker.specs.Carriers.{cond_with, hint_with, line_with, lines_over, place_at, place_named, places_named}
use Rattle.rf_saved.proofs.ListLemmas.{count_mapped, zip_mapped}
use Rattle.rf_saved.proofs.Trimmed.{trimmed, trimmed_hint, branch_trimmed}

-- ---- a carrier's name has the carrier's place

no_place : (p : List ℕ → Bool) (names : List (List ℕ)) (i : ℕ) → list_any p names ≡ false → i < length names → p (get_or names i []) ≡ false
no_place p [] i none low = absurd (omega (arith, low))
no_place p (name ∷ names) zero none low = (or_parts (p name) (list_any p names) none).0
no_place p (name ∷ names) (suc i) none low = no_place p names i (or_parts (p name) (list_any p names) none).1 (omega (arith, low))

first_is : (p : Carrier → Bool) (c : Carrier) (cs : List Carrier) → p c ≡ true → position_or_len p (c ∷ cs) ≡ 0
first_is p c cs h = rw h refl

later_is : (p : Carrier → Bool) (c : Carrier) (cs : List Carrier) (n : ℕ) → p c ≡ false → position_or_len p cs ≡ n → position_or_len p (c ∷ cs) ≡ suc n
later_is p c cs n h e = rw (h, e) (omega arith)

own_place : (carriers : List Carrier) (c : ℕ) → differ (carrier_names carriers) ≡ true → c < length carriers → place_named carriers (name_at (carrier_names carriers) c) ≡ c
own_place [] c apart low = absurd (omega (arith, low))
own_place (carrier ∷ carriers) zero apart low = first_is (is_carrier carrier.name) carrier carriers ((bytes_decides carrier.name carrier.name).1 refl)
own_place (carrier ∷ carriers) (suc c) apart low =
    let parts = and_parts (not (list_any (same_name carrier.name) (carrier_names carriers))) (differ (carrier_names carriers)) apart in
    let here : c < length (carrier_names carriers) = simp length-map (omega (arith, low)) in
    later_is (is_carrier (name_at (carrier_names carriers) c)) carrier carriers c
    (no_place (same_name carrier.name) (carrier_names carriers) c (not-true (list_any (same_name carrier.name) (carrier_names carriers)) parts.0) here)
    (own_place carriers c parts.1 (omega (arith, low)))

-- ---- lines over the show

module _ (show : ShowData) (others : List (List ℕ)) (apart : differ (carrier_names show.carriers) ≡ true) where
  abbrev count : ℕ
  count = length show.carriers

  abbrev names : List (List ℕ)
  names = carrier_names show.carriers

  abbrev at : ℕ → ℕ
  at = place_at (places_named show.carriers others) count

  carrier_over : (c place : ℕ) → c < count → IsSameCarrier names others c place → at place ≡ c
  carrier_over c place low same =
      get_or-map (place_named show.carriers) others place [] count same.known
      ∙ ap (place_named show.carriers) (sym same.name)
      ∙ own_place show.carriers c apart low

  cond_over : (cond read : Cond) → IsCondBelow count cond → IsSameCond names others cond read → cond_with at read ≡ cond
  cond_over cond read low same =
      ap (cond_with at) same.2 ∙ ap (λ (c : ℕ). record cond { carrier = c }) (carrier_over cond.carrier same.0 low same.1)

  roles_over : (roles places : List ℕ) → All (λ c. c < count) roles → AllZip (IsSameCarrier names others) roles places → map at places ≡ roles
  roles_over roles places low same =
      zip_mapped (λ c. c < count) (IsSameCarrier names others) at (λ c. c) roles places carrier_over low same ∙ map-id roles

  hint_over : (hint read : Hint) → IsHintBelow count hint → IsSameHint names others hint read → trimmed_hint (hint_with at read) ≡ trimmed_hint hint
  hint_over (Earlier line) read low same = ap (λ (h : Hint). trimmed_hint (hint_with at h)) same
  hint_over (Ban carrier lo hi) read low same =
      ap (λ (h : Hint). trimmed_hint (hint_with at h)) same.2 ∙ ap (λ (c : ℕ). Ban c lo hi) (carrier_over carrier same.0 low same.1)
  hint_over (Rule kind roles target lo hi) read low same =
      ap (λ (h : Hint). trimmed_hint (hint_with at h)) same.2
      ∙ ap (λ (rs : List ℕ). Rule kind rs target lo hi)
      (take-map at (roles_of kind) same.0 ∙ roles_over (take (roles_of kind) roles) (take (roles_of kind) same.0) low.known same.1)

  line_over : (line read : LogLine) → IsLineBelow count line → IsSameLine names others line read → trimmed (line_with at read) ≡ trimmed line
  line_over (Nogood conds hints) read low same =
      ap (λ (l : LogLine). trimmed (line_with at l)) same.4
      ∙ ap (λ (cs : List Cond). Nogood cs (map trimmed_hint (map (hint_with at) same.1)))
      (zip_mapped (IsCondBelow count) (IsSameCond names others) (cond_with at) (λ c. c) conds same.0 cond_over low.0 same.2 ∙ map-id conds)
      ∙ ap (λ (hs : List Hint). Nogood conds hs)
      (twice_mapped (hint_with at) trimmed_hint same.1
      ∙ zip_mapped (IsHintBelow count) (IsSameHint names others) (λ h. trimmed_hint (hint_with at h)) trimmed_hint hints same.1 hint_over low.1 same.3)
    where
      twice_mapped : (f g : Hint → Hint) (hs : List Hint) → map g (map f hs) ≡ map (λ h. g (f h)) hs
      twice_mapped f g [] = refl
      twice_mapped f g (h ∷ hs) = ap (λ rest. g (f h) ∷ rest) (twice_mapped f g hs)
  line_over (Branch cut carrier index) read low same =
      ap (λ (l : LogLine). trimmed (line_with at l)) same.2 ∙ ap (λ (c : ℕ). Branch cut c index) (carrier_over carrier same.0 low same.1)
  line_over (Up line) read low same = ap (λ (l : LogLine). trimmed (line_with at l)) same

twice : (f g : LogLine → LogLine) (lines : List LogLine) → map g (map f lines) ≡ map (λ l. g (f l)) lines
twice f g [] = refl
twice f g (l ∷ lines) = ap (λ rest. g (f l) ∷ rest) (twice f g lines)

-- the lines that were read, over the show
pub read_over : (show : ShowData) (lines : List LogLine) (log : LogData) → differ (carrier_names show.carriers) ≡ true → All (IsLineBelow (length show.carriers)) lines
    → AllZip (IsSameLine (carrier_names show.carriers) log.names) lines log.lines → map trimmed (lines_over show log) ≡ map trimmed lines
read_over show lines log apart low same =
    let at = place_at (places_named show.carriers log.names) (length show.carriers) in
    twice (line_with at) trimmed log.lines
    ∙ zip_mapped (IsLineBelow (length show.carriers)) (IsSameLine (carrier_names show.carriers) log.names) (λ l. trimmed (line_with at l)) trimmed lines log.lines
    (line_over show log.names apart) low same

branch_with : (at : ℕ → ℕ) (line : LogLine) → is_branch (line_with at line) ≡ is_branch line
branch_with at (Nogood conds hints) = refl
branch_with at (Branch cut carrier index) = refl
branch_with at (Up line) = refl

-- as many branch lines over the show as were read
pub branches_over : (show : ShowData) (log : LogData) → count_by is_branch (lines_over show log) ≡ count_by is_branch log.lines
branches_over show log = count_mapped is_branch (line_with (place_at (places_named show.carriers log.names) (length show.carriers))) log.lines (branch_with _)

-- as many branch lines were read as written
pub branches_read : (show : ShowData) (lines : List LogLine) (log : LogData) → map trimmed (lines_over show log) ≡ map trimmed lines
    → count_by is_branch log.lines ≡ count_by is_branch lines
branches_read show lines log same =
    sym (count_mapped is_branch (line_with (place_at (places_named show.carriers log.names) (length show.carriers))) log.lines (branch_with _))
    ∙ sym (count_mapped is_branch trimmed (lines_over show log) branch_trimmed)
    ∙ ap (count_by is_branch) same
    ∙ count_mapped is_branch trimmed lines branch_trimmed
