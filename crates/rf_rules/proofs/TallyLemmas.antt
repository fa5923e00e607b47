-- Lemmas on tallies: nothing more, one conflict more, and one list after another.
use Rattle.std.proofs.Common.{◌≡◌, ◌≤◌, ◌<◌, ◌+◌, ◌^◌, ℕ, suc, zero, List, [], ◌∷◌, ◌++◌, length, get_or, ◌-◌, take, arith, refl, ap, sym, subst, ◌∙◌}
use Rattle.std.proofs.lemmas.List.{flat_map_more, take_more, take_all, take_at, append-nil, append_assoc, length-append}
use Rattle.std.specs.List.{flat_map}
use Rattle.rf_rules.specs.Tallies.{Extends, IsEmpty, shown_of}
use Rattle.rf_rules.specs.declared.tally.Tally.{Tally}
use Rattle.rf_rules.specs.declared.conflict.Conflict.{Conflict}

-- what is cut off early is cut off late too
take-again : {X : Type 0} (n : ℕ) (xs ys : List X) → take n (take n xs ++ ys) ≡ take n (xs ++ ys)
take-again zero xs ys = refl
take-again (suc n) [] ys = refl
take-again (suc n) (x ∷ xs) ys = ap (λ zs. x ∷ zs) (take-again n xs ys)

pub shown-again : {X : Type 0} (xs ys : List X) → shown_of (shown_of xs ++ ys) ≡ shown_of (xs ++ ys)
unfolding shown_of
shown-again xs ys = take-again 10000 xs ys

pub shown-all : {X : Type 0} (xs : List X) → length xs ≤ 10000 → shown_of xs ≡ xs
unfolding shown_of
shown-all xs h = take_all 10000 xs h

pub shown-full : {X : Type 0} (xs ys : List X) → length xs ≡ 10000 → shown_of (xs ++ ys) ≡ xs
unfolding shown_of
shown-full xs ys h = take_at xs ys 10000 h

pub none-more : (r : Tally) → Extends r r []
none-more r = record {
  shown = sym (ap shown_of (append-nil r.shown.items) ∙ shown-all r.shown.items (omega (arith, r.within, r.shown.ok.0)));
  total = omega (arith, r.counted);
}

pub both-more : (a b c : Tally) (xs ys : List Conflict) → Extends a b xs → Extends b c ys → Extends a c (xs ++ ys)
both-more a b c xs ys p q = record {
  shown = q.shown ∙ ap (λ zs. shown_of (zs ++ ys)) p.shown ∙ shown-again (a.shown.items ++ xs) ys ∙ ap shown_of (append_assoc a.shown.items xs ys);
  total = omega (arith, p.total, q.total, length-append xs ys);
}

pub same-more : (a b : Tally) (xs ys : List Conflict) → xs ≡ ys → Extends a b xs → Extends a b ys
same-more a b xs ys e p = let P : List Conflict → Type 0 = λ zs. Extends a b zs in subst P e p

pub nothing : (a : Tally) (xs : List Conflict) → xs ≡ [] → Extends a a xs
nothing a xs e = same-more a a _ _ (sym e) (none-more a)

-- what is added to a tally that shows and counts the same conflicts
pub from-same : (a b c : Tally) (xs : List Conflict) → b.shown.items ≡ a.shown.items → b.total ≡ a.total → Extends b c xs → Extends a c xs
from-same a b c xs e f p = record { shown = p.shown ∙ ap (λ zs. shown_of (zs ++ xs)) e; total = omega (arith, p.total, f) }

-- what is added to an empty report is the whole of it
pub record IsWhole (r : Tally) (conflicts : List Conflict) : Type 0 where
  pub shown : r.shown.items ≡ shown_of conflicts
  pub total : r.total ≡ length conflicts

pub whole : (a b : Tally) (xs : List Conflict) → IsEmpty a → Extends a b xs → length xs < 2 ^ 64 - 1 → IsWhole b xs
whole a b xs e p few = record {
  shown = p.shown ∙ ap (λ zs. shown_of (zs ++ xs)) e.shown;
  total = omega (arith, p.total, e.total, few);
}

-- one part more of a list that is made of parts
pub part-more : {X : Type 0} (f : X → List Conflict) (xs : List X) (i : ℕ) (d : X) (a b c : Tally) → i < length xs → Extends a b (flat_map f (take i xs)) →
    Extends b c (f (get_or xs i d)) → Extends a c (flat_map f (take (i + 1) xs))
part-more f xs i d a b c h p q =
    same-more a c _ _ (flat_map_more f [] (take i xs) (get_or xs i d) ∙ ap (flat_map f) (sym (take_more xs i d h))) (both-more a b c _ _ p q)
