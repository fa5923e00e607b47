-- Pieces that are taken out one by one, and put back.
use Rattle.std.proofs.Common.{◌≡◌, ℕ, ◌+◌, ◌-◌, ◌<◌, ◌≤◌, ◌==◌, List, [], ◌∷◌, ◌++◌, Bool, true, false, not, ◌&&◌, ◌||◌, length, take, drop, reverse, get_or, suc, refl, sym, ◌∙◌, ap, subst}
use Rattle.std.proofs.Common.{arith, inl, inr, nat_le, nat_lt, Some, slice_get, ltb-true, leb-true, eqb-true, length-append, length-drop, drop-drop, take-append-drop, append_assoc}
use Rattle.std.specs.Option.{option_map}
use Rattle.std.proofs.lemmas.Bool.{and_parts, cases_Bool, cases_lt, cases_eq}
use Rattle.std.proofs.lemmas.Bool.Decides.{nat_tests}
use Rattle.std.proofs.lemmas.List.{reverse-append, length-reverse, length-map, drop-map, get_or-reverse}
use Rattle.std.proofs.lemmas.Option.{slice_get-get_or, slice_get-map}
use Rattle.std.proofs.Math.Seq.{drop-append_seam, drop-cons}
use Rattle.std.proofs.Math.Path.{fun_ext}
use Rattle.rf_domain.specs.Indices.{between}
use Rattle.rf_domain.specs.Sets.{size_of, sizes, has, without, with_all}
use Rattle.rf_trail.specs.declared.piece.Piece.{Piece}
use Rattle.rf_trail.specs.declared.step.Step.{Step}
use Rattle.rf_trail.proofs.TraceLaws.{reverse-take-drop}
use Rattle.rf_trail.specs.Trace.{has_of}
use Rattle.rf_trail.specs.Pieces.{entries_of, left_of, AreFresh, ArePieces, Gains, Agree, StandsFor}

-- only indices below a carrier's count are left
pub left_size : (counts : List ℕ) (ps : List Piece) (c k : ℕ) → left_of counts ps c k ≡ true → k < size_of counts c
left_size counts [] c k h = ltb-true k (size_of counts c) h
left_size counts (p ∷ ps) c k h = left_size counts ps c k (and_parts (left_of counts ps c k) _ h).0

pub piece_known : (counts : List ℕ) (p : Piece) (ps : List Piece) → AreFresh counts (p ∷ ps) → p.hi < size_of counts p.carrier
piece_known counts p ps fresh =
    let at_end : between p.lo p.hi p.hi ≡ true = let ordered = fresh.0 in grind (arith, nat_tests) in
    left_size counts ps p.carrier p.hi (fresh.1 p.hi at_end)

-- a piece that is put back leaves what was there before it was taken
pub put_there : (counts : List ℕ) (p : Piece) (ps : List Piece) → AreFresh counts (p ∷ ps)
    → with_all (left_of counts (p ∷ ps)) p.carrier (between p.lo p.hi) ≡ left_of counts ps
put_there counts p ps fresh = fun_ext λ c. fun_ext λ k. at_one c k
  where
    joined : (b cover : Bool) → (cover ≡ true → b ≡ true) → ((b && not cover) || cover) ≡ b
    joined true true f = refl
    joined true false f = refl
    joined false true f = sym (f refl)
    joined false false f = refl

    at_one : (c k : ℕ) → with_all (left_of counts (p ∷ ps)) p.carrier (between p.lo p.hi) c k ≡ left_of counts ps c k
    at_one c k = joined (left_of counts ps c k) ((c == p.carrier) && between p.lo p.hi k) (λ covered.
        let parts = and_parts (c == p.carrier) _ covered in
        let same : c ≡ p.carrier = eqb-true c p.carrier parts.0 in
        ap (λ x. left_of counts ps x k) same ∙ fresh.1 k parts.1)

reverse-push : {A : Type 0} → (items : List A) (x : A) → reverse (items ++ x ∷ []) ≡ x ∷ reverse items
reverse-push items x = reverse-append items (x ∷ [])

-- one more piece is taken out
pub pieces_more : (sets now : List (List Bool)) (pieces : List Piece) (p : Piece) → ArePieces sets pieces → sizes now ≡ sizes sets → p.lo ≤ p.hi
    → ((k : ℕ) → between p.lo p.hi k ≡ true → has sets p.carrier k ≡ true)
    → has now ≡ without (has sets) p.carrier (between p.lo p.hi) → ArePieces now (pieces ++ p ∷ [])
pieces_more sets now pieces p are sized ordered there out =
    let fresh : AreFresh (sizes sets) (p ∷ reverse pieces) = (ordered, λ k test. ap (λ b. b p.carrier k) (sym are.left) ∙ there k test, are.fresh) in record {
      left = out ∙ ap (λ b. without b p.carrier (between p.lo p.hi)) (are.left ∙ ap (λ ns. left_of ns (reverse pieces)) (sym sized))
          ∙ ap (left_of (sizes now)) (sym (reverse-push pieces p));
      fresh = subst (AreFresh (sizes now)) (sym (reverse-push pieces p)) (subst (λ (ns : List ℕ). AreFresh ns (p ∷ reverse pieces)) (sym sized) fresh);
    }

-- the newest piece is put back
pub pieces_less : (sets now : List (List Bool)) (pieces : List Piece) (p : Piece) → ArePieces sets (pieces ++ p ∷ []) → sizes now ≡ sizes sets
    → has now ≡ with_all (has sets) p.carrier (between p.lo p.hi) → ArePieces now pieces
pieces_less sets now pieces p are sized back =
    let fresh : AreFresh (sizes sets) (p ∷ reverse pieces) = subst (AreFresh (sizes sets)) (reverse-push pieces p) are.fresh in record {
      left = back ∙ ap (λ b. with_all b p.carrier (between p.lo p.hi)) (are.left ∙ ap (left_of (sizes sets)) (reverse-push pieces p))
          ∙ put_there (sizes sets) p (reverse pieces) fresh ∙ ap (λ ns. left_of ns (reverse pieces)) (sym sized);
      fresh = subst (λ (ns : List ℕ). AreFresh ns (reverse pieces)) (sym sized) fresh.2;
    }

pub last_known : (sets : List (List Bool)) (pieces : List Piece) (p : Piece) → ArePieces sets (pieces ++ p ∷ []) → (p.lo ≤ p.hi) × (p.hi < size_of (sizes sets) p.carrier)
last_known sets pieces p are =
    let fresh : AreFresh (sizes sets) (p ∷ reverse pieces) = subst (AreFresh (sizes sets)) (reverse-push pieces p) are.fresh in
    (fresh.0, piece_known (sizes sets) p (reverse pieces) fresh)

pub gains_none : (pieces : List Piece) → Gains pieces pieces
gains_none pieces = ([], refl)

pub gains_more : (before now : List Piece) (p : Piece) → Gains before now → Gains before (now ++ p ∷ [])
gains_more before now p gains = (p ∷ gains.0, reverse-push now p ∙ ap (λ ps. p ∷ ps) gains.1)

-- what was gained goes again
pub gains_dropped : (before now : List Piece) → Gains before now → drop (length now - length before) (reverse now) ≡ reverse before
gains_dropped before now gains =
    let many : length now - length before ≡ length gains.0 =
    omega (arith, length-reverse now, length-reverse before, ap length gains.1, length-append gains.0 (reverse before)) in
    ap (λ n. drop n (reverse now)) many ∙ ap (drop (length gains.0)) gains.1 ∙ drop-append_seam gains.0 (reverse before)

-- A range that is taken out from its lowest index on: the indices from lo to below `from` are out.

abbrev pub taken : ℕ → ℕ → ℕ → Bool
taken lo from k = nat_le lo k && nat_lt k from

same_without : (old now : ℕ → ℕ → Bool) (carrier : ℕ) (gone out : ℕ → Bool) → now ≡ without old carrier gone
    → ((k : ℕ) → (old carrier k && not (gone k)) ≡ (old carrier k && not (out k))) → now ≡ without old carrier out
same_without old now carrier gone out is same = is ∙ fun_ext λ c. fun_ext λ k. at_one c k
  where
    at_one : (c k : ℕ) → without old carrier gone c k ≡ without old carrier out c k
    at_one c k = elim (cases_eq c carrier) [
      | inl e ↦
          let here : (c == carrier) ≡ true = grind (arith, nat_tests) in
          ap (λ b. old c k && not (b && gone k)) here ∙ ap (λ x. old x k && not (gone k)) e ∙ same k
          ∙ ap (λ x. old x k && not (out k)) (sym e) ∙ ap (λ b. old c k && not (b && out k)) (sym here)
      | inr other ↦
          let apart : (c == carrier) ≡ false = grind (arith, nat_tests) in
          ap (λ b. old c k && not (b && gone k)) apart ∙ ap (λ b. old c k && not (b && out k)) (sym apart)
    ]

-- an index that is not left and was not taken was not there
not_there : (old now : ℕ → ℕ → Bool) (carrier : ℕ) (gone : ℕ → Bool) (k : ℕ) → now ≡ without old carrier gone → gone k ≡ false → now carrier k ≡ false → old carrier k ≡ false
not_there old now carrier gone k is kept none =
    let here : (carrier == carrier) ≡ true = grind (arith, nat_tests) in
    let read : now carrier k ≡ (old carrier k && true) =
    ap (λ b. b carrier k) is ∙ ap (λ b. old carrier k && not (b && gone k)) here ∙ ap (λ b. old carrier k && not b) kept in
    elim (cases_Bool (old carrier k)) [
      | inl there ↦ let left : now carrier k ≡ true = read ∙ ap (λ b. b && true) there in cc
      | inr gone_there ↦ gone_there
    ]

same_test : (b x y : Bool) → x ≡ y → (b && not x) ≡ (b && not y)
same_test b x y e = ap (λ t. b && not t) e

gone_already : (b x y : Bool) → b ≡ false → (b && not x) ≡ (b && not y)
gone_already b x y e = ap (λ t. t && not x) e ∙ ap (λ t. t && not y) (sym e)

-- nothing is left from `from` to `hi`, so the whole range is out
pub taken_all : (old now : ℕ → ℕ → Bool) (carrier lo hi from : ℕ) → lo ≤ from → from ≤ hi + 1 → now ≡ without old carrier (taken lo from)
    → ((k : ℕ) → from ≤ k → k ≤ hi → now carrier k ≡ false) → now ≡ without old carrier (between lo hi)
taken_all old now carrier lo hi from low high is none = same_without old now carrier (taken lo from) (between lo hi) is at_one
  where
    at_one : (k : ℕ) → (old carrier k && not (taken lo from k)) ≡ (old carrier k && not (between lo hi k))
    at_one k = elim (cases_lt k from) [
      | inl early ↦ same_test (old carrier k) (taken lo from k) (between lo hi k) (grind (arith, nat_tests))
      | inr late ↦
          let kept : taken lo from k ≡ false = grind (arith, nat_tests) in
          elim (cases_lt hi k) [
            | inl past ↦ same_test (old carrier k) (taken lo from k) (between lo hi k) (kept ∙ (grind (arith, nat_tests)))
            | inr within ↦ gone_already (old carrier k) (taken lo from k) (between lo hi k) (not_there old now carrier (taken lo from) k is kept (none k late within))
          ]
    ]

-- the next run is taken out, and nothing was left before it
pub taken_more : (old now next : ℕ → ℕ → Bool) (carrier lo from first last : ℕ) → lo ≤ from → from ≤ first → first ≤ last → now ≡ without old carrier (taken lo from)
    → ((k : ℕ) → from ≤ k → k < first → now carrier k ≡ false) → next ≡ without now carrier (between first last) → next ≡ without old carrier (taken lo (last + 1))
taken_more old now next carrier lo from first last low later ordered is none out =
    same_without old next carrier (λ k. taken lo from k || between first last k) (taken lo (last + 1))
    (out ∙ ap (λ b. without b carrier (between first last)) is ∙ fun_ext λ c. fun_ext λ k. twice (old c k) (c == carrier) (taken lo from k) (between first last k)) at_one
  where
    twice : (b x g h : Bool) → ((b && not (x && g)) && not (x && h)) ≡ (b && not (x && (g || h)))
    twice true true true h = refl
    twice true true false h = refl
    twice true false g h = refl
    twice false x g h = refl

    at_one : (k : ℕ) → (old carrier k && not (taken lo from k || between first last k)) ≡ (old carrier k && not (taken lo (last + 1) k))
    at_one k = elim (cases_lt k from) [
      | inl early ↦ same_test (old carrier k) _ _ (grind (arith, nat_tests))
      | inr late ↦
          let kept : taken lo from k ≡ false = grind (arith, nat_tests) in
          elim (cases_lt k first) [
            | inl before ↦ gone_already (old carrier k) _ _ (not_there old now carrier (taken lo from) k is kept (none k late before))
            | inr after ↦ same_test (old carrier k) _ _ (ap (λ t. t || between first last k) kept ∙ (grind (arith, nat_tests)))
          ]
    ]

-- the way so far through a range
pub record Taking (sets now : List (List Bool)) (before pieces : List Piece) (carrier lo hi from : ℕ) : Type 0 where
  pub sized : sizes now ≡ sizes sets
  pub made : ArePieces now pieces
  pub gains : Gains before pieces
  pub low : lo ≤ from
  pub high : from ≤ hi + 1
  pub gone : has now ≡ without (has sets) carrier (taken lo from)

nothing_taken : (lo k : ℕ) → taken lo lo k ≡ false
nothing_taken lo k = grind (arith, nat_tests)

pub taking_first : (sets : List (List Bool)) (pieces : List Piece) (carrier lo hi : ℕ) → ArePieces sets pieces → lo ≤ hi → Taking sets sets pieces pieces carrier lo hi lo
taking_first sets pieces carrier lo hi made ordered = record {
  sized = refl;
  made = made;
  gains = gains_none pieces;
  low = omega arith;
  high = omega arith;
  gone = fun_ext λ c. fun_ext λ k. sym (ap (λ t. has sets c k && not ((c == carrier) && t)) (nothing_taken lo k) ∙ idle (has sets c k) (c == carrier));
}
  where
    idle : (b x : Bool) → (b && not (x && false)) ≡ b
    idle true true = refl
    idle true false = refl
    idle false x = refl

pub taking_more : (sets now next : List (List Bool)) (before pieces : List Piece) (carrier lo hi from first last : ℕ) → Taking sets now before pieces carrier lo hi from
    → from ≤ first → first ≤ last → last ≤ hi → ((k : ℕ) → from ≤ k → k < first → has now carrier k ≡ false)
    → ((k : ℕ) → first ≤ k → k ≤ last → has now carrier k ≡ true)
    → sizes next ≡ sizes now → has next ≡ without (has now) carrier (between first last)
    → Taking sets next before (pieces ++ record { carrier = carrier; lo = first; hi = last } ∷ []) carrier lo hi (last + 1)
taking_more sets now next before pieces carrier lo hi from first last taking later ordered within none there sized out = record {
  sized = sized ∙ taking.sized;
  made = pieces_more now next pieces (record { carrier = carrier; lo = first; hi = last }) taking.made sized ordered
      (λ k test. let parts = and_parts (nat_le first k) _ test in there k (leb-true first k parts.0) (leb-true k last parts.1)) out;
  gains = gains_more before pieces (record { carrier = carrier; lo = first; hi = last }) taking.gains;
  low = let low = taking.low in omega arith;
  high = omega arith;
  gone = taken_more (has sets) (has now) (has next) carrier lo from first last taking.low later ordered taking.gone none out;
}

pub taking_last : (sets now : List (List Bool)) (before pieces : List Piece) (carrier lo hi from : ℕ) → Taking sets now before pieces carrier lo hi from
    → ((k : ℕ) → from ≤ k → k ≤ hi → has now carrier k ≡ false) → has now ≡ without (has sets) carrier (between lo hi)
taking_last sets now before pieces carrier lo hi from taking none = taken_all (has sets) (has now) carrier lo hi from taking.low taking.high taking.gone none

-- The steps and their pieces.

pub agree_top : (counts : List ℕ) (steps : List Step) (pieces : List Piece) → Agree counts steps pieces → left_of counts pieces ≡ has_of counts (entries_of steps)
agree_top counts [] pieces agree = ap (left_of counts) agree
agree_top counts (s ∷ ss) pieces agree = agree.1

-- what stands for the steps before one of them, once its pieces and the later ones are dropped
pub agree_before : (counts : List ℕ) (later : List Step) (s : Step) (steps : List Step) (pieces : List Piece) → Agree counts (later ++ s ∷ steps) pieces
    → (s.pieces ≤ length pieces) × Agree counts steps (drop (length pieces - s.pieces) pieces)
agree_before counts [] s steps pieces agree = (agree.0, agree.2)
agree_before counts (x ∷ xs) s steps pieces agree =
    let rest = drop (length pieces - x.pieces) pieces in
    let before = agree_before counts xs s steps rest agree.2 in
    let many : length rest ≡ x.pieces = length-drop (length pieces - x.pieces) pieces ∙ (let fits = agree.0 in omega arith) in
    let fits = agree.0 in
    let low = before.0 in
    let all : (length pieces - x.pieces) + (length rest - s.pieces) ≡ length pieces - s.pieces = omega arith in
    (omega arith, subst (Agree counts steps) (drop-drop (length rest - s.pieces) (length pieces - x.pieces) pieces ∙ ap (λ n. drop n pieces) all) before.1)

pub agree_more : (counts : List ℕ) (s : Step) (steps : List Step) (before now : List Piece) → Agree counts steps (reverse before) → Gains before now
    → s.pieces ≡ length before → left_of counts (reverse now) ≡ has_of counts (entries_of (s ∷ steps)) → Agree counts (s ∷ steps) (reverse now)
agree_more counts s steps before now agree gains count left =
    let grown = ap length gains.1 in
    let many : length (reverse now) - s.pieces ≡ length now - length before = omega (arith, length-reverse now) in
    let fits : s.pieces ≤ length (reverse now) = omega (arith, length-reverse before, length-append gains.0 (reverse before)) in
    (fits, left, subst (Agree counts steps) (sym (ap (λ n. drop n (reverse now)) many ∙ gains_dropped before now gains)) agree)

-- one more step, with the pieces that it took out
pub stands_more : (sets now : List (List Bool)) (steps : List Step) (s : Step) (before pieces : List Piece) → StandsFor sets steps before → sizes now ≡ sizes sets
    → ArePieces now pieces → Gains before pieces → s.pieces ≡ length before
    → has now ≡ without (has sets) s.entry.carrier (between s.entry.lo s.entry.hi) → StandsFor now (steps ++ s ∷ []) pieces
stands_more sets now steps s before pieces stands sized made gains count out = record {
  made = made;
  agree = subst (λ (ss : List Step). Agree (sizes now) ss (reverse pieces)) (sym (reverse-push steps s))
      (agree_more (sizes now) s (reverse steps) before pieces agree gains count left);
}
  where
    agree : Agree (sizes now) (reverse steps) (reverse before)
    agree = subst (λ (ns : List ℕ). Agree ns (reverse steps) (reverse before)) (sym sized) stands.agree

    old : has sets ≡ has_of (sizes now) (entries_of (reverse steps))
    old = stands.made.left ∙ agree_top (sizes sets) (reverse steps) (reverse before) stands.agree ∙ ap (λ ns. has_of ns (entries_of (reverse steps))) (sym sized)

    left : left_of (sizes now) (reverse pieces) ≡ has_of (sizes now) (entries_of (s ∷ reverse steps))
    left = sym made.left ∙ out ∙ ap (λ b. without b s.entry.carrier (between s.entry.lo s.entry.hi)) old

-- the steps in the order of the code, round one of them
split_at : (steps : List Step) (n : ℕ) (s : Step) → n < length steps → s ≡ get_or steps n s → reverse steps ≡ reverse (drop (suc n) steps) ++ s ∷ reverse (take n steps)
split_at steps n s low is =
    ap reverse (sym (take-append-drop n steps) ∙ ap (λ rest. take n steps ++ rest) (drop-cons steps n s low ∙ ap (λ x. x ∷ drop (suc n) steps) (sym is)))
    ∙ reverse-append (take n steps) (s ∷ drop (suc n) steps)
    ∙ ap (λ front. front ++ reverse (take n steps)) (reverse-append (s ∷ []) (drop (suc n) steps))
    ∙ append_assoc (reverse (drop (suc n) steps)) (s ∷ []) (reverse (take n steps))

pub before_step : (sets : List (List Bool)) (steps : List Step) (n : ℕ) (s : Step) (pieces : List Piece) → StandsFor sets steps pieces → n < length steps → s ≡ get_or steps n s
    → (s.pieces ≤ length (reverse pieces)) × Agree (sizes sets) (reverse (take n steps)) (drop (length (reverse pieces) - s.pieces) (reverse pieces))
before_step sets steps n s pieces stands low is =
    agree_before (sizes sets) (reverse (drop (suc n) steps)) s (reverse (take n steps)) (reverse pieces)
    (subst (λ (ss : List Step). Agree (sizes sets) ss (reverse pieces)) (split_at steps n s low is) stands.agree)

-- the steps before one of them, without the pieces from it on
pub stands_less : (sets now : List (List Bool)) (steps : List Step) (n : ℕ) (s : Step) (before pieces : List Piece) → StandsFor sets steps before → sizes now ≡ sizes sets
    → n < length steps → s ≡ get_or steps n s → ArePieces now pieces → reverse pieces ≡ drop (length before - s.pieces) (reverse before) → StandsFor now (take n steps) pieces
stands_less sets now steps n s before pieces stands sized low is made left = record {
  made = made;
  agree = subst (λ (ns : List ℕ). Agree ns (reverse (take n steps)) (reverse pieces)) (sym sized)
      (subst (Agree (sizes sets) (reverse (take n steps))) (ap (λ m. drop (m - s.pieces) (reverse before)) (length-reverse before) ∙ sym left)
      (before_step sets steps n s before stands low is).1);
}

-- the entry of a step, counted from the newest
pub entry_at : (steps : List Step) (n : ℕ) (s : Step) → n < length steps → s ≡ get_or steps n s
    → slice_get (entries_of (reverse steps)) (length (entries_of (reverse steps)) - 1 - n) ≡ Some s.entry
entry_at steps n s low is =
    let many : length (entries_of (reverse steps)) ≡ length steps = length-map (reverse steps) (λ x. x.entry) ∙ length-reverse steps in
    let k = length steps - 1 - n in
    let inside : k < length (reverse steps) = omega (arith, length-reverse steps) in
    let back : length steps - 1 - k ≡ n = omega arith in
    let read : slice_get (reverse steps) k ≡ Some s =
    slice_get-get_or (reverse steps) k s inside ∙ ap (λ x. Some x) (get_or-reverse steps k s (omega arith) ∙ ap (λ i. get_or steps i s) back ∙ sym is) in
    ap (λ m. slice_get (entries_of (reverse steps)) (m - 1 - n)) many ∙ slice_get-map (λ x. x.entry) (reverse steps) k ∙ ap (option_map (λ x. x.entry)) read

-- the entries of the first steps
pub entries_first : (steps : List Step) (n : ℕ) → n ≤ length steps
    → entries_of (reverse (take n steps)) ≡ drop (length (entries_of (reverse steps)) - n) (entries_of (reverse steps))
entries_first steps n low =
    let many : length (entries_of (reverse steps)) ≡ length steps = length-map (reverse steps) (λ x. x.entry) ∙ length-reverse steps in
    ap entries_of (reverse-take-drop steps n low) ∙ sym (drop-map (λ x. x.entry) (length steps - n) (reverse steps))
    ∙ ap (λ m. drop (m - n) (entries_of (reverse steps))) (sym many)

pub as_many : (steps : List Step) → length (entries_of (reverse steps)) ≡ length steps
as_many steps = length-map (reverse steps) (λ x. x.entry) ∙ length-reverse steps
