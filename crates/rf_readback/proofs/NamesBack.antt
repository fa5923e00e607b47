-- A name that is read stands at its number among the names with it, and earlier names keep their places.
use Rattle.std.proofs.Common.{◌≡◌, ◌∙◌, ◌+◌, ◌<◌, ◌≤◌, ℕ, suc, List, [], ◌∷◌, ◌++◌, Bool, true, false, length, take, refl, sym, arith, length-append, if◌then◌else◌}
use Rattle.std.specs.List.{AllZip, list_any, position_or_len}
use Rattle.std.specs.Cmp.Lexicographic.{bytes_decides}
use Rattle.std.proofs.lemmas.Bool.Decides.{nat_tests}
use Rattle.std.proofs.lemmas.List.{get_or_append_left, get_or_at}
use Rattle.rf_base.specs.Name.{same_name}
use Rattle.rf_log.specs.LineTexts.{name_at}
use Rattle.rf_log.specs.Names.{number_of_name, names_with}
use Rattle.rf_terms.specs.Kinds.{roles_of}
use Rattle.rf_log.specs.declared.cond.Cond.{Cond}
use Rattle.rf_log.specs.declared.hint.Hint.{Hint}
use Rattle.rf_log.specs.declared.hint.Hint.TheVariants.{Earlier, Ban, Rule}
use Rattle.rf_log.specs.declared.line.LogLine.{LogLine}
use Rattle.rf_log.specs.declared.line.LogLine.TheVariants.{Nogood, Branch, Up}
use Rattle.rf_readback.specs.Same.{IsSameCarrier, IsSameCond, IsSameHint, IsSameLine}

-- more names, of which the earlier ones keep their places
pub record IsGrown (names more : List (List ℕ)) : Type 0 where
  pub longer : length names ≤ length more
  pub kept : (c : ℕ) → c < length names → name_at more c ≡ name_at names c

pub grown_same : (names : List (List ℕ)) → IsGrown names names
grown_same names = record { longer = omega arith; kept = λ c low. refl }

pub grown_then : (names more most : List (List ℕ)) → IsGrown names more → IsGrown more most → IsGrown names most
grown_then names more most g h =
    let first = g.longer in
    let second = h.longer in
    record { longer = omega arith; kept = λ c low. h.kept c (omega arith) ∙ g.kept c low }

pub zip_weaker : {X : Type 0} (R S : X → X → Type 0) → ((x y : X) → R x y → S x y) → (xs ys : List X) → AllZip R xs ys → AllZip S xs ys
zip_weaker R S weaker [] [] h = tt
zip_weaker R S weaker [] (y ∷ ys) h = absurd h
zip_weaker R S weaker (x ∷ xs) [] h = absurd h
zip_weaker R S weaker (x ∷ xs) (y ∷ ys) h = (weaker x y h.0, zip_weaker R S weaker xs ys h.1)

same_is : (name other : List ℕ) → same_name name other ≡ true → other ≡ name
same_is name other h = sym ((bytes_decides name other).0 h)

-- a name stands at its place
pub record IsAt (names : List (List ℕ)) (name : List ℕ) (place : ℕ) : Type 0 where
  pub known : place < length names
  pub is : name_at names place ≡ name

at_next : (other : List ℕ) (names : List (List ℕ)) (name : List ℕ) (place : ℕ) → IsAt names name place → IsAt (other ∷ names) name (1 + place)
at_next other names name place h =
    let known = h.known in
    let next : 1 + place ≡ suc place = omega arith in
    record { known = omega arith; is = rw next h.is }

found : (name : List ℕ) (names : List (List ℕ)) → list_any (same_name name) names ≡ true → IsAt names name (position_or_len (same_name name) names)
found name [] h = absurd (cc)
found name (other ∷ names) h =
    let P : Bool → Type 0 = λ b. same_name name other ≡ b → IsAt (other ∷ names) name (position_or_len (same_name name) (other ∷ names)) in
    let all : (b : Bool) → P b = λ b. elim b as P [
      | true ↦ λ e. rw e (record { known = omega arith; is = same_is name other e })
      | false ↦ λ e. let more = rw e at h in rw e (at_next other names name (position_or_len (same_name name) names) (found name names more))
    ] in all (same_name name other) refl

not_found : (name : List ℕ) (names : List (List ℕ)) → list_any (same_name name) names ≡ false → position_or_len (same_name name) names ≡ length names
not_found name [] h = refl
not_found name (other ∷ names) h = grind (arith, nat_tests, not_found name names)

-- names with one more, and where that one stands
pub record IsNumbered (names : List (List ℕ)) (name : List ℕ) (number : ℕ) (more : List (List ℕ)) : Type 0 where
  pub at : IsAt more name number
  pub grown : IsGrown names more

with_last : (names : List (List ℕ)) (name : List ℕ) → IsGrown names (names ++ name ∷ [])
with_last names name =
    let long = length-append names (name ∷ []) in
    record { longer = omega arith; kept = λ c low. get_or_append_left names (name ∷ []) [] c low }

last : (names : List (List ℕ)) (name : List ℕ) → IsAt (names ++ name ∷ []) name (length names)
last names name =
    let long = length-append names (name ∷ []) in
    record { known = omega arith; is = get_or_at names name [] [] (length names) refl }

pub numbered : (names : List (List ℕ)) (name : List ℕ) → IsNumbered names name (number_of_name names name) (names_with names name)
numbered names name =
    let P : Bool → Type 0 = λ b. list_any (same_name name) names ≡ b → IsNumbered names name (number_of_name names name) (if b then names else names ++ name ∷ []) in
    let all : (b : Bool) → P b = λ b. elim b as P [
      | true ↦ λ e. record { at = found name names e; grown = grown_same names }
      | false ↦ λ e. record { at = rw (not_found name names e) (last names name); grown = with_last names name }
    ] in all (list_any (same_name name) names) refl

-- a carrier that is read by its name
pub same_numbered : (names others more : List (List ℕ)) (carrier number : ℕ) → IsNumbered others (name_at names carrier) number more → IsSameCarrier names more carrier number
same_numbered names others more carrier number h = record { known = h.at.known; name = sym h.at.is }

-- what is the same stays so as the names grow
module _ (names others more : List (List ℕ)) (grown : IsGrown others more) where
  pub carrier_kept : (carrier place : ℕ) → IsSameCarrier names others carrier place → IsSameCarrier names more carrier place
  carrier_kept carrier place h =
      let longer = grown.longer in
      let known = h.known in
      record { known = omega arith; name = h.name ∙ sym (grown.kept place known) }

  pub cond_kept : (cond read : Cond) → IsSameCond names others cond read → IsSameCond names more cond read
  cond_kept cond read h = (h.0, carrier_kept cond.carrier h.0 h.1, h.2)

  pub hint_kept : (hint read : Hint) → IsSameHint names others hint read → IsSameHint names more hint read
  hint_kept (Earlier line) read h = h
  hint_kept (Ban carrier lo hi) read h = (h.0, carrier_kept carrier h.0 h.1, h.2)
  hint_kept (Rule kind roles target lo hi) read h =
      (h.0, zip_weaker (IsSameCarrier names others) (IsSameCarrier names more) carrier_kept (take (roles_of kind) roles) (take (roles_of kind) h.0) h.1, h.2)

  pub conds_kept : (conds read : List Cond) → AllZip (IsSameCond names others) conds read → AllZip (IsSameCond names more) conds read
  conds_kept = zip_weaker (IsSameCond names others) (IsSameCond names more) cond_kept

  pub hints_kept : (hints read : List Hint) → AllZip (IsSameHint names others) hints read → AllZip (IsSameHint names more) hints read
  hints_kept = zip_weaker (IsSameHint names others) (IsSameHint names more) hint_kept

  pub line_kept : (line read : LogLine) → IsSameLine names others line read → IsSameLine names more line read
  line_kept (Nogood conds hints) read h = (h.0, h.1, conds_kept conds h.0 h.2, hints_kept hints h.1 h.3, h.4)
  line_kept (Branch cut carrier at) read h = (h.0, carrier_kept carrier h.0 h.1, h.2)
  line_kept (Up line) read h = h
