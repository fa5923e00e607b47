-- Lemmas on the walk along two lists that makes one of them.
use Rattle.std.proofs.Common.{◌≡◌, ◌≤◌, ◌<◌, ◌+◌, ◌-◌, ◌^◌, min, ℕ, Bool, false, List, [], ◌∷◌, ◌++◌, length, get_or, take, drop, refl, ap, sym, ◌∙◌, arith, drop-cons, add-one}
use Rattle.std.proofs.lemmas.List.{append_assoc, take_more}
use Rattle.std.proofs.Math.ListN.{drop_of_length-le}
use Rattle.rf_rules.specs.Tallies.{Extends, shown_of}
use Rattle.rf_rules.specs.declared.conflict.Conflict.{Conflict}
use Rattle.rf_rules.specs.declared.tally.Tally.{Tally}
use Rattle.rf_rules.proofs.TallyLemmas.{both-more, none-more, same-more}
use Rattle.rf_rules.specs.Merges.{ahead, behind, merge}
use Rattle.rf_rules.proofs.CutLemmas.{merge-length, shown-merge}

merge-cons : {X : Type 0} (lt : X → X → Bool) (y : X) (xs ys : List X) → merge lt xs (y ∷ ys) ≡ ahead lt y xs ++ y ∷ merge lt (behind lt y xs) ys
unfolding merge
merge-cons lt y [] ys = refl
merge-cons lt y (x ∷ xs) ys = grind (arith, merge-cons lt y xs ys)

merge-nil : {X : Type 0} (lt : X → X → Bool) (xs : List X) → merge lt xs [] ≡ xs
unfolding merge
merge-nil lt [] = refl
merge-nil lt (x ∷ xs) = ap (λ zs. x ∷ zs) (merge-nil lt xs)

-- how far the walk has come
pub record Walked (lt : Conflict → Conflict → Bool) (kept found rest : List Conflict) (i : ℕ) (a b : Tally) : Type 0 where
  pub done : List Conflict
  pub extends : Extends a b done
  pub same : done ++ merge lt rest (drop i found) ≡ merge lt kept found

pub walk-start : (lt : Conflict → Conflict → Bool) (kept found : List Conflict) (a : Tally) → Walked lt kept found kept 0 a a
walk-start lt kept found a = record { done = []; extends = none-more a; same = refl }

pub walk-more : (lt : Conflict → Conflict → Bool) (kept found rest next : List Conflict) (i : ℕ) (o : Conflict) (a b c d : Tally) → i < length found →
    Walked lt kept found rest i a b → Extends b c (ahead lt (get_or found i o) rest) → next ≡ behind lt (get_or found i o) rest → Extends c d (get_or found i o ∷ []) →
    Walked lt kept found next (i + 1) a d
walk-more lt kept found rest next i o a b c d h w p e q =
    let y = get_or found i o in
    let more : drop i found ≡ y ∷ drop (i + 1) found = drop-cons found i o h ∙ ap (λ j. y ∷ drop j found) (sym (add-one i)) in
    record {
      done = w.done ++ (ahead lt y rest ++ y ∷ []);
      extends = both-more a b d w.done (ahead lt y rest ++ y ∷ []) w.extends (both-more b c d (ahead lt y rest) (y ∷ []) p q);
      same = append_assoc w.done (ahead lt y rest ++ y ∷ []) (merge lt next (drop (i + 1) found))
          ∙ ap (λ zs. w.done ++ zs) (append_assoc (ahead lt y rest) (y ∷ []) (merge lt next (drop (i + 1) found))
          ∙ ap (λ zs. ahead lt y rest ++ y ∷ merge lt zs (drop (i + 1) found)) e
          ∙ sym (merge-cons lt y rest (drop (i + 1) found))
          ∙ ap (merge lt rest) (sym more))
          ∙ w.same;
    }

-- what is counted at the end
pub walk-end : (lt : Conflict → Conflict → Bool) (kept found rest all : List Conflict) (i more total : ℕ) (a b c d : Tally) → length found ≤ i → Walked lt kept found rest i a b →
    Extends b c rest → found ≡ shown_of all → total ≡ length all → more ≡ total - length found → length found ≤ total → d.shown.items ≡ c.shown.items →
    d.total ≡ min (c.total + more) (2 ^ 64 - 1) → Extends a d (merge lt kept all)
walk-end lt kept found rest all i more total a b c d h w p e f g few s t =
    let whole : w.done ++ rest ≡ merge lt kept found = ap (λ zs. w.done ++ zs) (sym (ap (merge lt rest) (drop_of_length-le found h) ∙ merge-nil lt rest)) ∙ w.same in
    let q : Extends a c (merge lt kept found) = same-more a c _ _ whole (both-more a b c w.done rest w.extends p) in
    record {
      shown = s ∙ q.shown ∙ ap (λ zs. shown_of (a.shown.items ++ merge lt kept zs)) e ∙ shown-merge lt a.shown.items kept all;
      total = omega (arith, t, q.total, merge-length lt kept found, merge-length lt kept all, f, g, few);
    }

-- ---- the part that stands ahead

pub record Ahead (lt : Conflict → Conflict → Bool) (y : Conflict) (kept : List Conflict) (i : ℕ) (a b : Tally) : Type 0 where
  pub extends : Extends a b (take i kept)
  pub ahead : ahead lt y kept ≡ take i kept ++ ahead lt y (drop i kept)
  pub behind : behind lt y kept ≡ behind lt y (drop i kept)

pub ahead-start : (lt : Conflict → Conflict → Bool) (y : Conflict) (kept : List Conflict) (a : Tally) → Ahead lt y kept 0 a a
ahead-start lt y kept a = record { extends = none-more a; ahead = refl; behind = refl }

pub ahead-more : (lt : Conflict → Conflict → Bool) (y d : Conflict) (kept : List Conflict) (i : ℕ) (a b c : Tally) → i < length kept → lt y (get_or kept i d) ≡ false →
    Ahead lt y kept i a b → Extends b c (get_or kept i d ∷ []) → Ahead lt y kept (i + 1) a c
ahead-more lt y d kept i a b c h e w p =
    let x = get_or kept i d in
    let more : drop i kept ≡ x ∷ drop (i + 1) kept = drop-cons kept i d h ∙ ap (λ j. x ∷ drop j kept) (sym (add-one i)) in
    let ahead-no : ahead lt y (x ∷ drop (i + 1) kept) ≡ x ∷ ahead lt y (drop (i + 1) kept) = rw e refl in
    let behind-no : behind lt y (x ∷ drop (i + 1) kept) ≡ behind lt y (drop (i + 1) kept) = rw e refl in
    let up : take (i + 1) kept ≡ take i kept ++ x ∷ [] = take_more kept i d h in
    record {
      extends = same-more a c _ _ (sym up) (both-more a b c (take i kept) (x ∷ []) w.extends p);
      ahead = w.ahead ∙ ap (λ zs. take i kept ++ ahead lt y zs) more ∙ ap (λ zs. take i kept ++ zs) ahead-no ∙
          sym (append_assoc (take i kept) (x ∷ []) (ahead lt y (drop (i + 1) kept))) ∙ ap (λ zs. zs ++ ahead lt y (drop (i + 1) kept)) (sym up);
      behind = w.behind ∙ ap (behind lt y) more ∙ behind-no;
    }

pub all-more : (xs : List Conflict) (i : ℕ) (d : Conflict) (a b c : Tally) → i < length xs → Extends a b (take i xs) → Extends b c (get_or xs i d ∷ []) → Extends a c (take (i + 1) xs)
all-more xs i d a b c h p q = same-more a c _ _ (sym (take_more xs i d h)) (both-more a b c (take i xs) (get_or xs i d ∷ []) p q)
