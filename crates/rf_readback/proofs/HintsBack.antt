-- Conditions and hints that are written are read back with the same names.
use Rattle.std.proofs.Common.{◌≡◌, ◌∙◌, ◌+◌, ◌<◌, ◌≤◌, ℕ, zero, suc, List, [], ◌∷◌, ◌++◌, Bool, true, false, length, take, map, refl, sym, arith, ap, Some, append-nil, append_assoc}
use Rattle.std.proofs.Common.{length-set, length-take, codes, decimal, slice_set}
use Rattle.std.specs.List.{All, AllZip, flat_map}
use Rattle.std.specs.Str.{bytes_eq}
use Rattle.std.proofs.lemmas.List.{take_more_set}
use Rattle.std.proofs.lemmas.List.Elements.{All-head, All-tail}
use Rattle.rf_base.specs.Name.{IsName, name_of}
use Rattle.rf_terms.specs.declared.kind.Kind.{Kind}
use Rattle.rf_terms.specs.Kinds.{roles_of, text_of}
use Rattle.rf_log.specs.declared.cond.Cond.{Cond}
use Rattle.rf_log.specs.declared.hint.Hint.{Hint}
use Rattle.rf_log.specs.declared.hint.Hint.TheVariants.{Earlier, Ban, Rule}
use Rattle.rf_log.specs.LineTexts.{name_at, side_text, cond_words, hint_words, IsShort, IsShortCond, IsShortHint}
use Rattle.rf_log.specs.LogText.{IsRuleBelow, IsCondBelow, IsHintBelow}
use Rattle.rf_log.specs.Names.{number_of_name, names_with}
use Rattle.rf_log.specs.Operands.{range_in, place_in}
use Rattle.rf_log.specs.Reading.{cond_by, conds_in, hint_by, hints_in, roles_in, target_range_in, rule_in, no_roles}
use Rattle.rf_readback.specs.Same.{IsSameCarrier, IsSameCond, IsSameHint}
use Rattle.rf_terms.proofs.KindLaws.{four_roles}
use Rattle.rf_readback.proofs.OperandLaws.{Says, name_back, number_back, side_back, kind_back, target_back}
use Rattle.rf_readback.proofs.NamesBack.{IsGrown, IsNumbered, grown_same, grown_then, numbered, same_numbered, carrier_kept, cond_kept, hint_kept}

side_no_end : (inside : Bool) → bytes_eq (side_text inside) (codes ";") ≡ false
side_no_end true = refl
side_no_end false = refl

-- one condition more is read
conds_more : (most : ℕ) (done : List Cond) (names words : List (List ℕ)) (word : List ℕ) (cond : Cond) (more after : List (List ℕ))
    → bytes_eq word (codes ";") ≡ false → cond_by word names words ≡ Some (cond, more, after)
    → conds_in (suc most) done names (word ∷ words) ≡ conds_in most (done ++ cond ∷ []) more after
conds_more most done names words word cond more after e w = rw (e, w) refl

-- one hint more is read
hints_more : (most : ℕ) (done : List Hint) (names words : List (List ℕ)) (word : List ℕ) (hint : Hint) (more after : List (List ℕ))
    → hint_by word names words ≡ Some (hint, more, after)
    → hints_in (suc most) done names (word ∷ words) ≡ hints_in most (done ++ hint ∷ []) more after
hints_more most done names words word hint more after w = rw w refl

range_back : (lo hi : ℕ) (words : List (List ℕ)) → IsShort lo → IsShort hi → range_in (decimal lo ∷ decimal hi ∷ words) ≡ Some ((lo, hi), words)
range_back lo hi words a b = let l = number_back lo a in let h = number_back hi b in rw (l.read, h.read) refl

target_range_back : (kind : Kind) (target lo hi : ℕ) (words : List (List ℕ)) → target < roles_of kind → IsShort lo → IsShort hi
    → target_range_in kind (decimal (target + 1) ∷ decimal lo ∷ decimal hi ∷ words) ≡ Some ((target, lo, hi), words)
target_range_back kind target lo hi words low a b =
    let few = four_roles kind in
    let role = number_back (target + 1) (omega arith) in
    rw (role.read, target_back kind target low, range_back lo hi words a b) refl

module _ (names : List (List ℕ)) (named : All IsName names) where
  pub carrier_back : (c : ℕ) → c < length names → Says name_of (name_at names c) (Some (name_at names c))
  carrier_back c low = name_back (name_at names c) (named c [] low)

  pub carrier_numbered : (others : List (List ℕ)) (c : ℕ) → IsNumbered others (name_at names c) (number_of_name others (name_at names c)) (names_with others (name_at names c))
  carrier_numbered others c = numbered others (name_at names c)

  place_back : (c lo hi : ℕ) (words : List (List ℕ)) → c < length names → IsShort lo → IsShort hi
      → place_in (name_at names c ∷ decimal lo ∷ decimal hi ∷ words) ≡ Some ((name_at names c, lo, hi), words)
  place_back c lo hi words low a b = let n = carrier_back c low in rw (n.read, range_back lo hi words a b) refl

  -- ---- conditions

  -- a condition by the number of its name
  abbrev by_number : List (List ℕ) → Cond → Cond
  by_number others cond = record cond { carrier = number_of_name others (name_at names cond.carrier) }

  cond_back : (others : List (List ℕ)) (cond : Cond) (words : List (List ℕ)) → IsCondBelow (length names) cond → IsShortCond cond
      → cond_by (side_text cond.inside) others (name_at names cond.carrier ∷ decimal cond.lo ∷ decimal cond.hi ∷ words)
      ≡ Some (by_number others cond, names_with others (name_at names cond.carrier), words)
  cond_back others cond words low short =
      let side = side_back cond.inside in
      rw (side.read, place_back cond.carrier cond.lo cond.hi words low short.0 short.1) refl

  -- what is read of conditions
  pub record ReadConds (others : List (List ℕ)) (conds : List Cond) (most : ℕ) (done : List Cond) (words : List (List ℕ)) : Type 0 where
    pub read : List Cond
    pub more : List (List ℕ)
    pub is : conds_in most done others (flat_map (cond_words names) conds ++ (codes ";" ∷ words)) ≡ Some (done ++ read, more, words)
    pub same : AllZip (IsSameCond names more) conds read
    pub grown : IsGrown others more

  pub conds_back : (others : List (List ℕ)) (conds : List Cond) (most : ℕ) (done : List Cond) (words : List (List ℕ))
      → length conds < most → All (IsCondBelow (length names)) conds → All IsShortCond conds → ReadConds others conds most done words
  conds_back others conds zero done words few below short = absurd (omega arith)
  conds_back others [] (suc most) done words few below short =
      record { read = []; more = others; is = ap (λ all. Some (all, others, words)) (sym (append-nil done)); same = tt; grown = grown_same others }
  conds_back others (cond ∷ conds) (suc most) done words few below short =
      let low = All-head (IsCondBelow (length names)) cond conds below in
      let number = carrier_numbered others cond.carrier in
      let one = cond_back others cond (flat_map (cond_words names) conds ++ (codes ";" ∷ words)) low (All-head IsShortCond cond conds short) in
      let rest = conds_back (names_with others (name_at names cond.carrier)) conds most (done ++ by_number others cond ∷ []) words (omega arith)
      (All-tail (IsCondBelow (length names)) cond conds below) (All-tail IsShortCond cond conds short) in
      record {
        read = by_number others cond ∷ rest.read;
        more = rest.more;
        is = conds_more most done others (name_at names cond.carrier ∷ decimal cond.lo ∷ decimal cond.hi ∷ (flat_map (cond_words names) conds ++ (codes ";" ∷ words)))
            (side_text cond.inside) _ _ _ (side_no_end cond.inside) one ∙ rest.is ∙ ap (λ all. Some (all, rest.more, words)) (append_assoc done (by_number others cond ∷ []) rest.read);
        same = (
          cond_kept names _ rest.more rest.grown cond (by_number others cond) (number_of_name others (name_at names cond.carrier), same_numbered names others _ cond.carrier _ number, refl),
          rest.same,
        );
        grown = grown_then others _ rest.more number.grown rest.grown;
      }

  -- ---- roles

  -- what is read of roles, which are set from a place on
  pub record ReadRoles (others : List (List ℕ)) (count : ℕ) (carriers roles : List ℕ) (place : ℕ) (words : List (List ℕ)) : Type 0 where
    pub read : List ℕ
    pub after : List ℕ
    pub more : List (List ℕ)
    pub is : roles_in count place roles others (map (name_at names) carriers ++ words) ≡ Some (after, more, words)
    pub front : take (place + count) after ≡ take place roles ++ read
    pub same : AllZip (IsSameCarrier names more) carriers read
    pub grown : IsGrown others more

  roles_back : (others : List (List ℕ)) (carriers roles : List ℕ) (place : ℕ) (words : List (List ℕ))
      → place + length carriers ≤ length roles → All (λ c. c < length names) carriers → ReadRoles others (length carriers) carriers roles place words
  roles_back others [] roles place words few below =
      let same : place + 0 ≡ place = omega arith in
      record { read = []; after = roles; more = others; is = refl; front = rw (same, append-nil) refl; same = tt; grown = grown_same others }
  roles_back others (c ∷ carriers) roles place words few below =
      let number = number_of_name others (name_at names c) in
      let low = All-head (λ c. c < length names) c carriers below in
      let name = carrier_back c low in
      let numbering = carrier_numbered others c in
      let long = length-set roles place number in
      let rest = roles_back (names_with others (name_at names c)) carriers (slice_set roles place number) (suc place) words (omega arith)
      (All-tail (λ c. c < length names) c carriers below) in
      let one : suc place ≡ place + 1 = omega arith in
      let size : place + suc (length carriers) ≡ suc place + length carriers = omega arith in
      let set_one : take (suc place) (slice_set roles place number) ≡ take place roles ++ number ∷ [] = rw one (take_more_set roles place number (omega arith)) in
      record {
        read = number ∷ rest.read;
        after = rest.after;
        more = rest.more;
        is = rw name.read rest.is;
        front = rw (size, rest.front, set_one) (append_assoc (take place roles) (number ∷ []) rest.read);
        same = (carrier_kept names _ rest.more rest.grown c number (same_numbered names others _ c number numbering), rest.same);
        grown = grown_then others _ rest.more numbering.grown rest.grown;
      }

  counted_back : (others : List (List ℕ)) (count : ℕ) (carriers roles : List ℕ) (place : ℕ) (words : List (List ℕ))
      → count ≡ length carriers → place + count ≤ length roles → All (λ c. c < length names) carriers → ReadRoles others count carriers roles place words
  counted_back others count carriers roles place words size few below =
      let fit : place + length carriers ≤ length roles = omega arith in rw size (roles_back others carriers roles place words fit below)

  -- ---- hints

  -- what is read of a hint
  pub record ReadHint (others : List (List ℕ)) (hint : Hint) (words : List (List ℕ)) : Type 0 where
    pub read : Hint
    pub more : List (List ℕ)
    pub is : (most : ℕ) (done : List Hint) → hints_in (suc most) done others (hint_words names hint ++ words) ≡ hints_in most (done ++ read ∷ []) more words
    pub same : IsSameHint names more hint read
    pub grown : IsGrown others more

  -- the words after the roles of a rule
  abbrev rule_end : ℕ → ℕ → ℕ → List (List ℕ) → List (List ℕ)
  rule_end target lo hi words = decimal (target + 1) ∷ decimal lo ∷ decimal hi ∷ words

  rule_from : (others : List (List ℕ)) (kind : Kind) (roles : List ℕ) (target lo hi : ℕ) (words : List (List ℕ))
      → ReadRoles others (roles_of kind) (take (roles_of kind) roles) no_roles 0 (rule_end target lo hi words) → target < roles_of kind → IsShort lo → IsShort hi
      → ReadHint others (Rule kind roles target lo hi) words
  rule_from others kind roles target lo hi words got low a b =
      let none : roles_of kind ≡ 0 + roles_of kind = omega arith in
      let all : take (roles_of kind) got.after ≡ got.read = ap (λ n. take n got.after) none ∙ got.front in
      let k = kind_back kind in
      let rule : rule_in others (text_of kind ∷ (map (name_at names) (take (roles_of kind) roles) ++ rule_end target lo hi words)) ≡ Some (Rule kind got.after target lo hi, got.more, words) =
      rw (k.read, got.is, target_range_back kind target lo hi words low a b) refl in
      record {
        read = Rule kind got.after target lo hi;
        more = got.more;
        is = λ most done. rw append_assoc (hints_more most done others (text_of kind ∷ (map (name_at names) (take (roles_of kind) roles) ++ rule_end target lo hi words)) (codes "rule") _ _ _ rule);
        same = (got.after, rw all got.same, refl);
        grown = got.grown;
      }

  rule_back : (others : List (List ℕ)) (kind : Kind) (roles : List ℕ) (target lo hi : ℕ) (words : List (List ℕ))
      → IsRuleBelow (length names) kind roles target → IsShort lo → IsShort hi → ReadHint others (Rule kind roles target lo hi) words
  rule_back others kind roles target lo hi words below a b =
      let few = four_roles kind in
      let taken = length-take (roles_of kind) roles in
      let full = below.full in
      rule_from others kind roles target lo hi words
      (counted_back others (roles_of kind) (take (roles_of kind) roles) no_roles 0 (rule_end target lo hi words) (omega arith) (omega arith) below.known) below.place a b

  hint_back : (others : List (List ℕ)) (hint : Hint) (words : List (List ℕ)) → IsHintBelow (length names) hint → IsShortHint hint → ReadHint others hint words
  hint_back others (Earlier line) words below short =
      let n = number_back line short in
      record { read = Earlier line; more = others; is = λ most done. rw n.read refl; same = refl; grown = grown_same others }
  hint_back others (Ban carrier lo hi) words below short =
      let number = carrier_numbered others carrier in
      let place = place_back carrier lo hi words below short.0 short.1 in
      record {
        read = Ban (number_of_name others (name_at names carrier)) lo hi;
        more = names_with others (name_at names carrier);
        is = λ most done. rw place refl;
        same = (number_of_name others (name_at names carrier), same_numbered names others _ carrier _ number, refl);
        grown = number.grown;
      }
  hint_back others (Rule kind roles target lo hi) words below short = rule_back others kind roles target lo hi words below short.0 short.1

  -- what is read of hints
  pub record ReadHints (others : List (List ℕ)) (hints : List Hint) (most : ℕ) (done : List Hint) : Type 0 where
    pub read : List Hint
    pub more : List (List ℕ)
    pub is : hints_in most done others (flat_map (hint_words names) hints) ≡ Some (done ++ read, more)
    pub same : AllZip (IsSameHint names more) hints read
    pub grown : IsGrown others more

  pub hints_back : (others : List (List ℕ)) (hints : List Hint) (most : ℕ) (done : List Hint)
      → length hints < most → All (IsHintBelow (length names)) hints → All IsShortHint hints → ReadHints others hints most done
  hints_back others hints zero done few below short = absurd (omega arith)
  hints_back others [] (suc most) done few below short =
      record { read = []; more = others; is = ap (λ all. Some (all, others)) (sym (append-nil done)); same = tt; grown = grown_same others }
  hints_back others (hint ∷ hints) (suc most) done few below short =
      let one = hint_back others hint (flat_map (hint_words names) hints) (All-head (IsHintBelow (length names)) hint hints below) (All-head IsShortHint hint hints short) in
      let rest = hints_back one.more hints most (done ++ one.read ∷ []) (omega arith) (All-tail (IsHintBelow (length names)) hint hints below) (All-tail IsShortHint hint hints short) in
      record {
        read = one.read ∷ rest.read;
        more = rest.more;
        is = one.is most done ∙ rest.is ∙ ap (λ all. Some (all, rest.more)) (append_assoc done (one.read ∷ []) rest.read);
        same = (hint_kept names one.more rest.more rest.grown hint one.read one.same, rest.same);
        grown = grown_then others one.more rest.more one.grown rest.grown;
      }
