-- A line that is written is read back with the same names, and ends no log.
use Rattle.std.proofs.Common.{◌≡◌, ◌+◌, ◌<◌, ◌≤◌, ℕ, List, [], ◌∷◌, ◌++◌, true, false, length, take, map, refl, arith, Some, append_assoc, length-append, codes, decimal}
use Rattle.std.specs.List.{All, flat_map, list_all}
use Rattle.std.specs.Str.{bytes_eq}
use Rattle.std.proofs.lemmas.List.Elements.{All-head, All-tail}
use Rattle.std.proofs.lemmas.List.Folds.{list_all-append}
use Rattle.rf_base.specs.Name.{IsName}
use Rattle.rf_terms.specs.Kinds.{roles_of}
use Rattle.rf_log.specs.declared.cond.Cond.{Cond}
use Rattle.rf_log.specs.declared.hint.Hint.{Hint}
use Rattle.rf_log.specs.declared.hint.Hint.TheVariants.{Earlier, Ban, Rule}
use Rattle.rf_log.specs.declared.line.LogLine.{LogLine}
use Rattle.rf_log.specs.declared.line.LogLine.TheVariants.{Nogood, Branch, Up}
use Rattle.rf_log.specs.LineTexts.{spaced, name_at, cut_text, cond_words, hint_words, line_text_of, IsShortCond, IsShortHint, IsShortLine}
use Rattle.rf_log.specs.LogText.{IsCondBelow, IsHintBelow, IsLineBelow, is_ending, is_spent}
use Rattle.rf_log.specs.Names.{number_of_name, names_with}
use Rattle.rf_log.specs.Reading.{line_by, line_in}
use Rattle.rf_log.specs.Words.{words_in}
use Rattle.rf_readback.specs.Same.{IsSameLine}
use Rattle.rf_readback.proofs.WordLaws.{is_word, words_back, spaced_all, spaced_both, spaced_long}
use Rattle.rf_terms.proofs.KindLaws.{four_roles}
use Rattle.rf_readback.proofs.OperandLaws.{number_back, side_back, cut_back, kind_back}
use Rattle.rf_readback.proofs.NamesBack.{IsGrown, grown_same, grown_then, same_numbered, conds_kept}
use Rattle.rf_readback.proofs.HintsBack.{carrier_back, carrier_numbered, conds_back, hints_back}

-- the first word of a line, and the others
abbrev pub first_word : LogLine → List ℕ
first_word (Nogood conds hints) = codes "n"
first_word (Branch cut carrier at) = codes "b"
first_word (Up line) = codes "u"

abbrev pub other_words : List (List ℕ) → LogLine → List (List ℕ)
other_words names (Nogood conds hints) = flat_map (cond_words names) conds ++ (codes ";" ∷ flat_map (hint_words names) hints)
other_words names (Branch cut carrier at) = cut_text cut ∷ name_at names carrier ∷ decimal at ∷ []
other_words names (Up line) = decimal line ∷ []

-- the line without its line feed
abbrev pub line_bytes : List (List ℕ) → LogLine → List ℕ
line_bytes names line = first_word line ++ spaced (other_words names line)

nogood_words : (conds hints : List (List ℕ)) → codes "n" ++ (spaced conds ++ (codes " ;" ++ (spaced hints ++ 10 ∷ []))) ≡ (codes "n" ++ spaced (conds ++ (codes ";" ∷ hints))) ++ 10 ∷ []
nogood_words conds hints = rw (spaced_both conds (codes ";" ∷ hints)) (simp append_assoc refl)

pub text_is : (names : List (List ℕ)) (line : LogLine) → line_text_of names line ≡ line_bytes names line ++ 10 ∷ []
text_is names (Nogood conds hints) =
    rw (spaced_all (cond_words names) conds, spaced_all (hint_words names) hints) (nogood_words (flat_map (cond_words names) conds) (flat_map (hint_words names) hints))
text_is names (Branch cut carrier at) = refl
text_is names (Up line) = refl

-- ---- all of a list are words

both_words : (these those : List (List ℕ)) → list_all is_word these ≡ true → list_all is_word those ≡ true → list_all is_word (these ++ those) ≡ true
both_words these those h k = rw (list_all-append is_word these those, h, k) refl

all_words : {X : Type 0} (words : X → List (List ℕ)) (xs : List X) → All (λ x. list_all is_word (words x) ≡ true) xs → list_all is_word (flat_map words xs) ≡ true
all_words words [] h = refl
all_words words (x ∷ xs) h =
    both_words (words x) (flat_map words xs) (All-head (λ y. list_all is_word (words y) ≡ true) x xs h) (all_words words xs (All-tail (λ y. list_all is_word (words y) ≡ true) x xs h))

long_words : {X : Type 0} (words : X → List (List ℕ)) → ((x : X) → 0 < length (words x)) → (xs : List X) → length xs ≤ length (flat_map words xs)
long_words words some [] = omega arith
long_words words some (x ∷ xs) =
    let one = some x in
    let more = long_words words some xs in
    let both = length-append (words x) (flat_map words xs) in
    omega arith

some_cond : (names : List (List ℕ)) (cond : Cond) → 0 < length (cond_words names cond)
some_cond names cond = omega arith

some_hint : (names : List (List ℕ)) (hint : Hint) → 0 < length (hint_words names hint)
some_hint names (Earlier line) = omega arith
some_hint names (Ban carrier lo hi) = omega arith
some_hint names (Rule kind roles target lo hi) = omega arith

-- the line is longer than there are conditions, and than there are hints
nogood_long : (names : List (List ℕ)) (conds : List Cond) (hints : List Hint)
    → (length conds < length (line_bytes names (Nogood conds hints))) × (length hints < length (line_bytes names (Nogood conds hints)))
nogood_long names conds hints =
    let c = long_words (cond_words names) (some_cond names) conds in
    let h = long_words (hint_words names) (some_hint names) hints in
    let both = length-append (flat_map (cond_words names) conds) (codes ";" ∷ flat_map (hint_words names) hints) in
    let all = spaced_long (other_words names (Nogood conds hints)) in
    (omega arith, omega arith)

not_ending : (line : List ℕ) (words : List (List ℕ)) → bytes_eq line (codes "plan") ≡ false → bytes_eq line (codes "refuted") ≡ false → words_in line ≡ words → is_spent words ≡ false
    → is_ending line ≡ false
not_ending line words a b split h = rw (a, b, split, h) refl

module _ (names : List (List ℕ)) (named : All IsName names) where
  cond_valid : (cond : Cond) → IsCondBelow (length names) cond → IsShortCond cond → list_all is_word (cond_words names cond) ≡ true
  cond_valid cond low short =
      let side = side_back cond.inside in
      let name = carrier_back names named cond.carrier low in
      let lo = number_back cond.lo short.0 in
      let hi = number_back cond.hi short.1 in
      rw (side.valid, name.valid, lo.valid, hi.valid) refl

  names_valid : (carriers : List ℕ) → All (λ c. c < length names) carriers → list_all is_word (map (name_at names) carriers) ≡ true
  names_valid [] h = refl
  names_valid (c ∷ carriers) h =
      let name = carrier_back names named c (All-head (λ c. c < length names) c carriers h) in
      rw (name.valid, names_valid carriers (All-tail (λ c. c < length names) c carriers h)) refl

  hint_valid : (hint : Hint) → IsHintBelow (length names) hint → IsShortHint hint → list_all is_word (hint_words names hint) ≡ true
  hint_valid (Earlier line) below short = let n = number_back line short in rw n.valid refl
  hint_valid (Ban carrier lo hi) below short =
      let name = carrier_back names named carrier below in
      let l = number_back lo short.0 in
      let h = number_back hi short.1 in
      rw (name.valid, l.valid, h.valid) refl
  hint_valid (Rule kind roles target lo hi) below short =
      let k = kind_back kind in
      let few = four_roles kind in
      let place = below.place in
      let t = number_back (target + 1) (omega arith) in
      let l = number_back lo short.0 in
      let h = number_back hi short.1 in
      let end : list_all is_word (decimal (target + 1) ∷ decimal lo ∷ decimal hi ∷ []) ≡ true = rw (t.valid, l.valid, h.valid) refl in
      rw (k.valid, both_words (map (name_at names) (take (roles_of kind) roles)) (decimal (target + 1) ∷ decimal lo ∷ decimal hi ∷ []) (names_valid (take (roles_of kind) roles) below.known) end) refl

  pub line_valid : (line : LogLine) → IsLineBelow (length names) line → IsShortLine line → list_all is_word (first_word line ∷ other_words names line) ≡ true
  line_valid (Nogood conds hints) below short =
      let c = all_words (cond_words names) conds (λ k d low. cond_valid _ (below.0 k d low) (short.0 k d low)) in
      let h = all_words (hint_words names) hints (λ k d low. hint_valid _ (below.1 k d low) (short.1 k d low)) in
      both_words (flat_map (cond_words names) conds) (codes ";" ∷ flat_map (hint_words names) hints) c h
  line_valid (Branch cut carrier at) below short =
      let c = cut_back cut in
      let name = carrier_back names named carrier below in
      let n = number_back at short in
      rw (c.valid, name.valid, n.valid) refl
  line_valid (Up line) below short = let n = number_back line short in rw n.valid refl

  -- what is read of a line
  pub record ReadLine (others : List (List ℕ)) (line : LogLine) : Type 0 where
    pub read : LogLine
    pub more : List (List ℕ)
    pub is : line_in others (line_bytes names line) ≡ Some (read, more)
    pub same : IsSameLine names more line read
    pub grown : IsGrown others more

  -- what is read of the words of a line
  record ReadWords (most : ℕ) (others : List (List ℕ)) (line : LogLine) : Type 0 where
    pub read : LogLine
    pub more : List (List ℕ)
    pub is : line_by most others (first_word line ∷ other_words names line) ≡ Some (read, more)
    pub same : IsSameLine names more line read
    pub grown : IsGrown others more

  nogood_back : (most : ℕ) (others : List (List ℕ)) (conds : List Cond) (hints : List Hint) → length conds < most → length hints < most
      → IsLineBelow (length names) (Nogood conds hints) → IsShortLine (Nogood conds hints) → ReadWords most others (Nogood conds hints)
  nogood_back most others conds hints few less below short =
      let c = conds_back names named others conds most [] (flat_map (hint_words names) hints) few below.0 short.0 in
      let h = hints_back names named c.more hints most [] less below.1 short.1 in
      record {
        read = Nogood c.read h.read;
        more = h.more;
        is = rw (c.is, h.is) refl;
        same = (c.read, h.read, conds_kept names c.more h.more h.grown conds c.read c.same, h.same, refl);
        grown = grown_then others c.more h.more c.grown h.grown;
      }

  by_words : (most : ℕ) (others : List (List ℕ)) (line : LogLine) → length (line_bytes names line) ≡ most → IsLineBelow (length names) line → IsShortLine line → ReadWords most others line
  by_words most others (Nogood conds hints) size below short =
      let long = nogood_long names conds hints in
      nogood_back most others conds hints (omega (arith, long.0)) (omega (arith, long.1)) below short
  by_words most others (Branch cut carrier at) size below short =
      let c = cut_back cut in
      let name = carrier_back names named carrier below in
      let n = number_back at short in
      let number = carrier_numbered names named others carrier in
      record {
        read = Branch cut (number_of_name others (name_at names carrier)) at;
        more = names_with others (name_at names carrier);
        is = rw (c.read, name.read, n.read) refl;
        same = (number_of_name others (name_at names carrier), same_numbered names others _ carrier _ number, refl);
        grown = number.grown;
      }
  by_words most others (Up line) size below short =
      let n = number_back line short in
      record { read = Up line; more = others; is = rw n.read refl; same = refl; grown = grown_same others }

  pub line_back : (others : List (List ℕ)) (line : LogLine) → IsLineBelow (length names) line → IsShortLine line → ReadLine others line
  line_back others line below short =
      let words = by_words (length (line_bytes names line)) others line refl below short in
      let split : words_in (line_bytes names line) ≡ first_word line ∷ other_words names line = words_back (first_word line) (other_words names line) (line_valid line below short) in
      record { read = words.read; more = words.more; is = rw split words.is; same = words.same; grown = words.grown }

  not_spent : (line : LogLine) → is_spent (first_word line ∷ other_words names line) ≡ false
  not_spent (Nogood conds hints) = refl
  not_spent (Branch cut carrier at) = refl
  not_spent (Up line) = refl

  no_verdict : (line : LogLine) → (bytes_eq (line_bytes names line) (codes "plan") ≡ false) × (bytes_eq (line_bytes names line) (codes "refuted") ≡ false)
  no_verdict (Nogood conds hints) = (refl, refl)
  no_verdict (Branch cut carrier at) = (refl, refl)
  no_verdict (Up line) = (refl, refl)

  pub no_ending : (line : LogLine) → IsLineBelow (length names) line → IsShortLine line → is_ending (line_bytes names line) ≡ false
  no_ending line below short =
      let verdict = no_verdict line in
      not_ending (line_bytes names line) (first_word line ∷ other_words names line) verdict.0 verdict.1
      (words_back (first_word line) (other_words names line) (line_valid line below short)) (not_spent line)
