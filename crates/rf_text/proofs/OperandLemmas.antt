-- Reading as many operands as there are to be, and others after them.
use Rattle.std.proofs.Common.{◌≡◌, ◌<◌, ◌+◌, ◌-◌, ◌++◌, ℕ, suc, List, [], ◌∷◌, length, take, set, length-set, arith, refl, ap, Some, None, sym, append_assoc, append-nil}
use Rattle.std.specs.Prelude.{option_map, option_and_then, unwrap_or}
use Rattle.std.specs.declared.option.Option.{Option}
use Rattle.std.proofs.lemmas.List.{take_all, take_more_set}
use Rattle.rf_base.specs.Decimal.{number_of}
use Rattle.rf_text.specs.Operands.{at_most_one, fewest_numbers, profile_numbers, several}

-- what was read, before the rest
abbrev then_rest : {A B : Type 0} → List A → List A × B → List A × B
then_rest done w = (done ++ w.0, w.1)

module _ {A B : Type 0} (reads : List ℕ → Option A) (others : List (List ℕ) → Option B) where
  with_first : (x : A) (done : List A) (read : Option (List A × B))
      → option_map (then_rest done) (option_map (λ (w : A × (List A × B)). (w.0 ∷ w.1.0, w.1.1)) (option_and_then (λ more. Some (x, more)) read))
      ≡ option_map (then_rest (done ++ x ∷ [])) read
  with_first x done None = refl
  with_first x done (Some more) = ap (λ all. Some (all, more.1)) (sym (append_assoc done (x ∷ []) more.0))

  several-ended : (done : List A) (words : List (List ℕ)) (o : Option B) → others words ≡ o
      → option_map (then_rest done) (several 0 reads others words) ≡ option_map (λ more. (done, more)) o
  unfolding several
  several-ended done words None h = rw h refl
  several-ended done words (Some more) h = rw (h, append-nil done) refl

  -- So many operands of all words: those that were read, and so many fewer of the words that are left. There is room for one
  -- operand more.
  pub record Reads (count index : ℕ) (all : List (List ℕ)) (items : List A) (words : List (List ℕ)) : Type 0 where
    pub is : several count reads others all ≡ option_map (then_rest (take index items)) (several (count - index) reads others words)
    pub long : length items ≡ suc count

  module _ (count index : ℕ) (all : List (List ℕ)) (items : List A) (words : List (List ℕ)) (r : Reads count index all items words) where
    -- a word is missing
    pub missing : index < count → words ≡ [] → several count reads others all ≡ None
    unfolding several
    missing h e = let one : count - index ≡ suc (count - (index + 1)) = omega arith in rw (r.is, e, one) refl

    -- the next word is no operand
    pub wrong : (word : List ℕ) (left : List (List ℕ)) → index < count → words ≡ word ∷ left → reads word ≡ None → several count reads others all ≡ None
    unfolding several
    wrong word left h e w = let one : count - index ≡ suc (count - (index + 1)) = omega arith in rw (r.is, e, one, w) refl

    -- it is
    pub more : (x : A) (word : List ℕ) (left : List (List ℕ)) → index < count → words ≡ word ∷ left → reads word ≡ Some x
        → Reads count (index + 1) all (set items index x) left
    unfolding several
    more x word left h e w =
        let one : count - index ≡ suc (count - (index + 1)) = omega arith in
        let set = take_more_set items index x (omega (arith, r.long)) in
        record {
          is = rw (r.is, e, set, one, w) (with_first x (take index items) (several (count - (index + 1)) reads others left));
          long = simp length-set r.long;
        }

    -- all were read
    pub whole : (o : Option B) → count ≡ index → others words ≡ o → several count reads others all ≡ option_map (λ more. (take count items, more)) o
    whole o h e =
        let none : count - index ≡ 0 = omega arith in
        rw (r.is, none, ← h) (several-ended (take count items) words o e)

-- ---- the numbers of a profile

abbrev pub ReadsNumbers : ℕ → List (List ℕ) → List ℕ → List (List ℕ) → Type 0
ReadsNumbers = Reads number_of (at_most_one number_of) fewest_numbers

pub no_numbers : (all : List (List ℕ)) → several fewest_numbers number_of (at_most_one number_of) all ≡ None → None ≡ profile_numbers all
unfolding profile_numbers
no_numbers all h = rw h refl

-- the last number is read, or is 0
pub numbers_read : (place : ℕ) (all : List (List ℕ)) (items : List ℕ) (words : List (List ℕ)) (last : Option ℕ) → ReadsNumbers place all items words → place ≡ fewest_numbers
    → at_most_one number_of words ≡ Some last → Some (set items fewest_numbers (unwrap_or last 0)) ≡ profile_numbers all
unfolding profile_numbers
numbers_read place all items words last r h e =
    let read = whole number_of (at_most_one number_of) fewest_numbers place all items words r (Some last) (sym h) e in
    let x = unwrap_or last 0 in
    let all = take_more_set items fewest_numbers x (omega (arith, r.long)) in
    let whole = take_all (fewest_numbers + 1) (set items fewest_numbers x) (omega (arith, r.long, length-set items fewest_numbers x)) in
    rw (read, ← all, whole) refl
