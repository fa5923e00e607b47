-- The carriers of a line that is read are places among the names with its names.
use Rattle.std.proofs.Common.{◌≡◌, ◌∙◌, ◌+◌, ◌-◌, ◌<◌, ◌≤◌, ℕ, zero, suc, List, [], ◌∷◌, ◌++◌, Bool, true, false, refl, sym, arith, subst, length, take, drop, set, replicate, get_or, Some}
use Rattle.std.proofs.Common.{None, length-set, length-append, IfSome, codes, slice_set, if◌then◌else◌, nat_le, ◌&&◌}
use Rattle.std.specs.declared.option.Option.{Option}
use Rattle.std.specs.List.{All, list_any, position_or_len}
use Rattle.std.specs.Str.{bytes_eq}
use Rattle.std.proofs.lemmas.Bool.Decides.{nat_tests}
use Rattle.std.proofs.lemmas.List.Elements.{All-append, All-nil, All-cons}
use Rattle.std.proofs.lemmas.List.{take_more_set}
use Rattle.rf_base.specs.Name.{name_of, same_name}
use Rattle.rf_base.specs.Decimal.{number_of}
use Rattle.rf_terms.specs.declared.kind.Kind.{Kind}
use Rattle.rf_terms.specs.Kinds.{kind_of, roles_of}
use Rattle.rf_terms.proofs.KindLaws.{four_roles}
use Rattle.rf_log.specs.declared.cond.Cond.{Cond}
use Rattle.rf_log.specs.declared.hint.Hint.{Hint}
use Rattle.rf_log.specs.declared.hint.Hint.TheVariants.{Earlier, Ban, Rule}
use Rattle.rf_log.specs.declared.line.LogLine.{LogLine}
use Rattle.rf_log.specs.declared.line.LogLine.TheVariants.{Nogood, Branch, Up}
use Rattle.rf_log.specs.Words.{words_in, lines_in, is_feed, with_byte}
use Rattle.rf_log.specs.Names.{number_of_name, names_with}
use Rattle.rf_log.specs.Operands.{taken, only, side_of, cut_of, target_in, range_in, place_in}
use Rattle.rf_log.specs.Reading.{cond_by, conds_in, hint_by, hints_in, roles_in, ban_in, rule_in, line_hint_in, nogood_in, branch_in, up_in, line_by, line_in, target_range_in, no_roles}
use Rattle.rf_log.specs.LogText.{IsHintBelow, IsCondBelow, IsLineBelow, IsLog, before_ending, is_ending}
use Rattle.rf_base.proofs.OptionLaws.{if_any, if_found, if_map}

if_either : {A : Type 0} (P : A → Type 0) (test : Bool) (yes_value no_value : Option A) → IfSome yes_value P → IfSome no_value P → IfSome (if test then yes_value else no_value) P
if_either P true x y h k = h
if_either P false x y h k = k

if_weaker : {A : Type 0} (P Q : A → Type 0) (o : Option A) → ((x : A) → P x → Q x) → IfSome o P → IfSome o Q
if_weaker P Q None k h = tt
if_weaker P Q (Some x) k h = k x h

if_at : {A : Type 0} (P : A → Type 0) (o : Option A) (x : A) → o ≡ Some x → IfSome o P → P x
if_at {A} P o x e h = let Q : Option A → Type 0 = λ o. IfSome o P in subst Q e h

first_within : (p : List ℕ → Bool) (xs : List (List ℕ)) → position_or_len p xs ≤ length xs
first_within p [] = omega arith
first_within p (x ∷ xs) = grind (arith, nat_tests, first_within p xs)

first_there : (p : List ℕ → Bool) (xs : List (List ℕ)) → list_any p xs ≡ true → position_or_len p xs < length xs
first_there p [] h = absurd (cc)
first_there p (x ∷ xs) h = grind (arith, nat_tests, first_there p xs)

-- a name's number is a place among the names with it, which are as many or one more
pub record IsNumbered (names : List (List ℕ)) (number : ℕ) (more : List (List ℕ)) : Type 0 where
  pub known : number < length more
  pub grown : length names ≤ length more

pub numbered : (names : List (List ℕ)) (name : List ℕ) → IsNumbered names (number_of_name names name) (names_with names name)
numbered names name =
    let P : Bool → Type 0 = λ b. list_any (same_name name) names ≡ b → IsNumbered names (number_of_name names name) (if b then names else names ++ name ∷ []) in
    let all : (b : Bool) → P b = λ b. elim b as P [
      | true ↦ λ e. record { known = first_there (same_name name) names e; grown = omega arith }
      | false ↦ λ e.
          let within = first_within (same_name name) names in
          let long = length-append names (name ∷ []) in
          record { known = omega arith; grown = omega arith }
    ] in all (list_any (same_name name) names) refl

cond_below : (word : List ℕ) (names words : List (List ℕ)) → IfSome (cond_by word names words) (λ r. IsNumbered names r.0.carrier r.1)
cond_below word names words =
    if_any _ (λ r. IsNumbered names r.0.carrier r.1) (side_of word) (λ side.
    if_any _ (λ r. IsNumbered names r.0.carrier r.1) (place_in words) (λ place. numbered names place.0.0))

-- what holds below a number holds below a greater one
conds_more : (n m : ℕ) (conds : List Cond) → n ≤ m → All (IsCondBelow n) conds → All (IsCondBelow m) conds
conds_more n m conds h all = λ k d low. let is = all k d low in omega arith

hint_more : (n m : ℕ) (hint : Hint) → n ≤ m → IsHintBelow n hint → IsHintBelow m hint
hint_more n m (Earlier line) h below = tt
hint_more n m (Ban carrier lo hi) h below = omega arith
hint_more n m (Rule kind roles target lo hi) h below =
    record { known = λ k d low. (let is = below.known k d low in omega arith); rest = below.rest; place = below.place; full = below.full }

hints_more : (n m : ℕ) (hints : List Hint) → n ≤ m → All (IsHintBelow n) hints → All (IsHintBelow m) hints
hints_more n m hints h all = λ k d low. hint_more n m (get_or hints k d) h (all k d low)

line_more : (n m : ℕ) (line : LogLine) → n ≤ m → IsLineBelow n line → IsLineBelow m line
line_more n m (Nogood conds hints) h below = (conds_more n m conds h below.0, hints_more n m hints h below.1)
line_more n m (Branch cut carrier at) h below = omega arith
line_more n m (Up line) h below = tt

-- what is read with the names after it
pub record AreBelow {A : Type 0} (P : ℕ → A → Type 0) (names : List (List ℕ)) (x : A) (more : List (List ℕ)) : Type 0 where
  pub below : P (length more) x
  pub grown : length names ≤ length more

conds_below : (most : ℕ) (conds : List Cond) (names words : List (List ℕ)) → All (IsCondBelow (length names)) conds
    → IfSome (conds_in most conds names words) (λ r. AreBelow (λ n. All (IsCondBelow n)) names r.0 r.1)
conds_below zero conds names words h = tt
conds_below (suc most) conds names [] h = tt
conds_below (suc most) conds names (word ∷ words) h =
    if_either _ (bytes_eq word (codes ";")) (Some (conds, names, words)) _ (record { below = h; grown = omega arith })
    (if_found _ (λ r. IsNumbered names r.0.carrier r.1) _ (cond_by word names words) (cond_below word names words) (λ read is.
    let more : All (IsCondBelow (length read.1)) (conds ++ read.0 ∷ []) =
    All-append (IsCondBelow (length read.1)) conds (read.0 ∷ []) (conds_more (length names) (length read.1) conds is.grown h)
    (All-cons (IsCondBelow (length read.1)) read.0 [] is.known (All-nil (IsCondBelow (length read.1)))) in
    if_weaker (λ r. AreBelow (λ n. All (IsCondBelow n)) read.1 r.0 r.1) _ (conds_in most (conds ++ read.0 ∷ []) read.1 read.2)
    (λ r a. let grown = a.grown in let first = is.grown in record { below = a.below; grown = omega arith }) (conds_below most (conds ++ read.0 ∷ []) read.1 read.2 more)))

-- the roles that are set so far, of four
pub record AreSet (n place : ℕ) (roles : List ℕ) : Type 0 where
  pub known : All (λ c. c < n) (take place roles)
  pub rest : drop place roles ≡ replicate (4 - place) 0
  pub full : length roles ≡ 4

replicate_more : (n m : ℕ) → n ≡ suc m → replicate {A = ℕ} n 0 ≡ 0 ∷ replicate {A = ℕ} m 0
replicate_more n m h = rw h refl

tail_is : (x y : ℕ) (xs ys : List ℕ) → x ∷ xs ≡ y ∷ ys → xs ≡ ys
tail_is x y xs ys h = cc

drop_next : (xs : List ℕ) (place : ℕ) → place < length xs → drop place xs ≡ get_or xs place 0 ∷ drop (suc place) xs
drop_next [] place h = absurd (omega arith)
drop_next (x ∷ xs) zero h = refl
drop_next (x ∷ xs) (suc place) h = drop_next xs place (omega arith)

drop_set : (xs : List ℕ) (place y : ℕ) → drop (suc place) (set xs place y) ≡ drop (suc place) xs
drop_set [] place y = refl
drop_set (x ∷ xs) zero y = refl
drop_set (x ∷ xs) (suc place) y = drop_set xs place y

one_set : (n m place number : ℕ) (roles : List ℕ) → place < 4 → AreSet n place roles → n ≤ m → number < m → AreSet m (suc place) (set roles place number)
one_set n m place number roles h is le low =
    let one : suc place ≡ place + 1 = omega arith in
    let inside : place < length roles = omega (arith, is.full) in
    let taken : take (suc place) (set roles place number) ≡ take place roles ++ number ∷ [] = rw one (take_more_set roles place number inside) in
    let all : All (λ c. c < m) (take place roles ++ number ∷ []) =
    All-append (λ c. c < m) (take place roles) (number ∷ []) (λ k d l. let below = is.known k d l in omega arith) (All-cons (λ c. c < m) number [] low (All-nil (λ c. c < m))) in
    let zeros = replicate_more (4 - place) (4 - suc place) (omega arith) in
    record {
      known = rw taken all;
      rest = drop_set roles place number ∙ tail_is (get_or roles place 0) 0 (drop (suc place) roles) (replicate (4 - suc place) 0) (sym (drop_next roles place inside) ∙ is.rest ∙ zeros);
      full = simp length-set is.full;
    }

roles_below : (count place total : ℕ) (roles : List ℕ) (names words : List (List ℕ)) → place + count ≡ total → total ≤ 4 → AreSet (length names) place roles
    → IfSome (roles_in count place roles names words) (λ r. AreBelow (λ n. AreSet n total) names r.0 r.1)
roles_below zero place total roles names words e h is =
    let same : place ≡ total = omega arith in
    record { below = subst (λ (t : ℕ). AreSet (length names) t roles) same is; grown = omega arith }
roles_below (suc count) place total roles names words e h is =
    if_any _ _ (taken name_of words) (λ name.
    let next = numbered names name.0 in
    let set_one = one_set (length names) (length (names_with names name.0)) place (number_of_name names name.0) roles (omega arith) is next.grown next.known in
    if_weaker (λ r. AreBelow (λ n. AreSet n total) (names_with names name.0) r.0 r.1) _
    (roles_in count (suc place) (slice_set roles place (number_of_name names name.0)) (names_with names name.0) name.1)
    (λ r a. let grown = a.grown in let first = next.grown in record { below = a.below; grown = omega arith })
    (roles_below count (suc place) total (slice_set roles place (number_of_name names name.0)) (names_with names name.0) name.1 (omega arith) h set_one))

target_below : (kind : Kind) (role : ℕ) → IfSome (target_in kind role) (λ target. target < roles_of kind)
target_below kind role =
    let P : Bool → Type 0 = λ b. (nat_le 1 role && nat_le role (roles_of kind)) ≡ b → IfSome (if b then Some (role - 1) else None) (λ target. target < roles_of kind) in
    let all : (b : Bool) → P b = λ b. elim b as P [
      | true ↦ λ e. place role (roles_of kind) e
      | false ↦ λ e. tt
    ] in all (nat_le 1 role && nat_le role (roles_of kind)) refl
  where
    place : (role count : ℕ) → (nat_le 1 role && nat_le role count) ≡ true → role - 1 < count
    place role count e = grind (arith, nat_tests)

target_range_below : (kind : Kind) (words : List (List ℕ)) → IfSome (target_range_in kind words) (λ r. r.0.0 < roles_of kind)
target_range_below kind words =
    if_any _ _ (taken number_of words) (λ role.
    if_found _ (λ target. target < roles_of kind) _ (target_in kind role.0) (target_below kind role.0) (λ target h.
    if_any _ _ (range_in role.1) (λ range. h)))

no_role_set : (n : ℕ) → AreSet n 0 no_roles
no_role_set n = record { known = All-nil (λ c. c < n); rest = refl; full = refl }

rule_below : (names words : List (List ℕ)) → IfSome (rule_in names words) (λ r. AreBelow IsHintBelow names r.0 r.1)
rule_below names words =
    if_any _ _ (taken kind_of words) (λ kind.
    if_found _ (λ r. AreBelow (λ n. AreSet n (roles_of kind.0)) names r.0 r.1) _ (roles_in (roles_of kind.0) 0 no_roles names kind.1)
    (roles_below (roles_of kind.0) 0 (roles_of kind.0) no_roles names kind.1 (omega arith) (four_roles kind.0) (no_role_set (length names))) (λ roles is.
    if_found _ (λ r. r.0.0 < roles_of kind.0) _ (target_range_in kind.0 roles.2) (target_range_below kind.0 roles.2) (λ at h.
    let set_all = is.below in
    record { below = record { known = set_all.known; rest = set_all.rest; place = h; full = set_all.full }; grown = is.grown })))

ban_below : (names words : List (List ℕ)) → IfSome (ban_in names words) (λ r. AreBelow IsHintBelow names r.0 r.1)
ban_below names words = if_any _ _ (place_in words) (λ place. let next = numbered names place.0.0 in record { below = next.known; grown = next.grown })

line_hint_below : (names words : List (List ℕ)) → IfSome (line_hint_in names words) (λ r. AreBelow IsHintBelow names r.0 r.1)
line_hint_below names words = if_map (λ w. (Earlier w.0, names, w.1)) _ (taken number_of words) (always (taken number_of words))
  where
    always : (o : Option (ℕ × List (List ℕ))) → IfSome o (λ w. AreBelow IsHintBelow names (Earlier w.0) names)
    always None = tt
    always (Some w) = record { below = tt; grown = omega arith }

hint_below : (word : List ℕ) (names words : List (List ℕ)) → IfSome (hint_by word names words) (λ r. AreBelow IsHintBelow names r.0 r.1)
hint_below word names words =
    if_either _ (bytes_eq word (codes "line")) (line_hint_in names words) _ (line_hint_below names words)
    (if_either _ (bytes_eq word (codes "ban")) (ban_in names words) _ (ban_below names words)
    (if_either _ (bytes_eq word (codes "rule")) (rule_in names words) None (rule_below names words) tt))

hints_below : (most : ℕ) (hints : List Hint) (names words : List (List ℕ)) → All (IsHintBelow (length names)) hints
    → IfSome (hints_in most hints names words) (λ r. AreBelow (λ n. All (IsHintBelow n)) names r.0 r.1)
hints_below zero hints names words h = tt
hints_below (suc most) hints names [] h = record { below = h; grown = omega arith }
hints_below (suc most) hints names (word ∷ words) h =
    if_found _ (λ r. AreBelow IsHintBelow names r.0 r.1) _ (hint_by word names words) (hint_below word names words) (λ read is.
    let more : All (IsHintBelow (length read.1)) (hints ++ read.0 ∷ []) =
    All-append (IsHintBelow (length read.1)) hints (read.0 ∷ []) (hints_more (length names) (length read.1) hints is.grown h)
    (All-cons (IsHintBelow (length read.1)) read.0 [] is.below (All-nil (IsHintBelow (length read.1)))) in
    if_weaker (λ r. AreBelow (λ n. All (IsHintBelow n)) read.1 r.0 r.1) _ (hints_in most (hints ++ read.0 ∷ []) read.1 read.2)
    (λ r a. let grown = a.grown in let first = is.grown in record { below = a.below; grown = omega arith }) (hints_below most (hints ++ read.0 ∷ []) read.1 read.2 more))

nogood_below : (most : ℕ) (names words : List (List ℕ)) → IfSome (nogood_in most names words) (λ r. AreBelow IsLineBelow names r.0 r.1)
nogood_below most names words =
    if_found _ (λ r. AreBelow (λ n. All (IsCondBelow n)) names r.0 r.1) _ (conds_in most [] names words) (conds_below most [] names words (All-nil (IsCondBelow (length names)))) (λ conds is.
    if_found _ (λ r. AreBelow (λ n. All (IsHintBelow n)) conds.1 r.0 r.1) _ (hints_in most [] conds.1 conds.2)
    (hints_below most [] conds.1 conds.2 (All-nil (IsHintBelow (length conds.1)))) (λ hints are.
    let grown = is.grown in
    let more = are.grown in
    record { below = (conds_more (length conds.1) (length hints.1) conds.0 more is.below, are.below); grown = omega arith }))

branch_below : (names words : List (List ℕ)) → IfSome (branch_in names words) (λ r. AreBelow IsLineBelow names r.0 r.1)
branch_below names words =
    if_any _ _ (taken cut_of words) (λ cut.
    if_any _ _ (taken name_of cut.1) (λ name.
    if_any _ _ (only number_of name.1) (λ at. let next = numbered names name.0 in record { below = next.known; grown = next.grown })))

up_below : (names words : List (List ℕ)) → IfSome (up_in names words) (λ r. AreBelow IsLineBelow names r.0 r.1)
up_below names words = if_map (λ line. (Up line, names)) _ (only number_of words) (always (only number_of words))
  where
    always : (o : Option ℕ) → IfSome o (λ line. AreBelow IsLineBelow names (Up line) names)
    always None = tt
    always (Some line) = record { below = tt; grown = omega arith }

by_below : (most : ℕ) (names words : List (List ℕ)) → IfSome (line_by most names words) (λ r. AreBelow IsLineBelow names r.0 r.1)
by_below most names [] = tt
by_below most names (word ∷ words) =
    if_either _ (bytes_eq word (codes "n")) (nogood_in most names words) _ (nogood_below most names words)
    (if_either _ (bytes_eq word (codes "b")) (branch_in names words) _ (branch_below names words)
    (if_either _ (bytes_eq word (codes "u")) (up_in names words) None (up_below names words) tt))

pub line_below : (names : List (List ℕ)) (bytes : List ℕ) (line : LogLine) (more : List (List ℕ)) → line_in names bytes ≡ Some (line, more) → AreBelow IsLineBelow names line more
line_below names bytes line more e =
    if_at (λ r. AreBelow IsLineBelow names r.0 r.1) (line_in names bytes) (line, more) e (by_below (length bytes) names (words_in bytes))

-- the log with one line more
pub log_more : (names more : List (List ℕ)) (lines : List LogLine) (line : LogLine) → IsLog (record { names = names; lines = lines }) → AreBelow IsLineBelow names line more
    → length lines + 1 < 4294967296 → IsLog (record { names = more; lines = lines ++ line ∷ [] })
log_more names more lines line is below few = record {
  known = All-append (IsLineBelow (length more)) lines (line ∷ []) (λ k d low. line_more (length names) (length more) (get_or lines k d) below.grown (is.known k d low))
      (All-cons (IsLineBelow (length more)) line [] below.below (All-nil (IsLineBelow (length more))));
  few = simp length-append few;
}

pub no_log : IsLog (record { names = []; lines = [] })
no_log = record { known = All-nil (IsLineBelow 0); few = omega arith }

with_byte_few : (byte n : ℕ) (lines : List (List ℕ)) → length lines ≤ n → length (with_byte byte lines) ≤ suc n
with_byte_few byte n [] h = omega arith
with_byte_few byte n (line ∷ lines) h = omega arith

lines_few : (bytes : List ℕ) → length (lines_in bytes) ≤ length bytes
lines_few [] = omega arith
lines_few (byte ∷ bytes) =
    let few = lines_few bytes in
    let P : Bool → Type 0 = λ b. length (if b then [] ∷ lines_in bytes else with_byte byte (lines_in bytes)) ≤ suc (length bytes) in
    let all : (b : Bool) → P b = λ b. elim b as P [ true ↦ omega arith | false ↦ with_byte_few byte (length bytes) (lines_in bytes) few ] in
    all (is_feed byte)

ending_few : (lines : List (List ℕ)) → length (before_ending lines) ≤ length lines
ending_few [] = omega arith
ending_few (line ∷ lines) =
    let few = ending_few lines in
    let P : Bool → Type 0 = λ b. length (if b then [] else line ∷ before_ending lines) ≤ suc (length lines) in
    let all : (b : Bool) → P b = λ b. elim b as P [ true ↦ omega arith | false ↦ omega arith ] in
    all (is_ending line)

pub log_lines_few : (bytes : List ℕ) → length (before_ending (lines_in bytes)) ≤ length bytes
log_lines_few bytes =
    let few = lines_few bytes in
    let all = ending_few (lines_in bytes) in
    omega arith
