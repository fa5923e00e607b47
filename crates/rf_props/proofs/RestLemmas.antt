-- What was left when nothing more fell.
use Rattle.std.proofs.Common.{◌≡◌, ◌∙◌, ℕ, ◌+◌, Bool, true, false, List, [], ◌∷◌, length, sym, ap, subst, arith, Some, true≢false}
use Rattle.std.proofs.lemmas.Bool.Decides.{nat_tests}
use Rattle.rf_terms.specs.declared.kind.Kind.{Kind}
use Rattle.rf_terms.specs.Kinds.{roles_of}
use Rattle.rf_terms.proofs.KindLaws.{two_roles}
use Rattle.rf_log.specs.Case.{Case, counts_of, is_among}
use Rattle.rf_log.specs.Box.{Box}
use Rattle.rf_domain.specs.Sets.{has, sizes, AreWithin}
use Rattle.rf_trail.specs.Trace.{Trace}
use Rattle.rf_props.specs.Flags.{is_flagged, AreSingles, HaveFew}
use Rattle.rf_props.specs.Sweeps.{left, AreKindsDone, AreAllDone}
use Rattle.rf_props.specs.Rests.{Rests}
use Rattle.rf_props.proofs.StrikeLemmas.{sized_left}
use Rattle.rf_props.proofs.KeptLemmas.{AreLess, few_less, done_less, clear_flagged}
use Rattle.rf_props.proofs.FlagLemmas.{sets_sized, few_of_singles}

pub rests_some : {case : Case} {kinds : List Kind} {sets : List (List Bool)} → sizes sets ≡ counts_of case → AreAllDone case (has sets) kinds → Rests case kinds (Some sets)
rests_some {case} {kinds} {sets} sized done = record {
  sized = record { each = λ others is. subst (λ (x : List (List Bool)). sizes x ≡ counts_of case) (same others is) sized };
  done = λ others is. subst (λ (x : List (List Bool)). AreAllDone case (has x) kinds) (same others is) done;
}
  where
    same : (others : List (List Bool)) → Some sets ≡ Some others → sets ≡ others
    same others is = cc

-- what is left of sets that lie within others
pub less_by : (t : Trace) (inner outer : List (List Bool)) → has inner ≡ left t → AreWithin inner outer → AreLess (has outer) (left t)
less_by t inner outer is within c k here = within.each c k (ap (λ f. f c k) is ∙ here)

-- where no index has come back, the carriers that were single at rest are done with each other
pub known_few : (case : Case) (t : Trace) (inner outer : List (List Bool)) (flags : List Bool) → has inner ≡ left t → sizes outer ≡ counts_of case
    → AreWithin inner outer → AreSingles case (has outer) flags
    → HaveFew (left t) flags
known_few case t inner outer flags is sized within singles = few_less (less_by t inner outer is within) (few_of_singles case (has outer) flags (sets_sized case outer sized) singles)

pub known_done : (case : Case) (t : Trace) (inner outer : List (List Bool)) (flags : List Bool) (kinds : List Kind) → t.counts ≡ counts_of case → has inner ≡ left t → sizes outer ≡ counts_of case
    → AreWithin inner outer → AreSingles case (has outer) flags → AreAllDone case (has outer) kinds → AreKindsDone case (left t) flags kinds
known_done case t inner outer flags kinds counts is sized within singles done =
    done_less case (has outer) (left t) flags kinds (sized_left case t counts) (less_by t inner outer is within) (few_of_singles case (has outer) flags (sets_sized case outer sized) singles) done

-- no carrier is known
pub none_few : (box : Box) (flags : List Bool) → ((c : ℕ) → is_flagged flags c ≡ false) → HaveFew box flags
none_few box flags off = record { each = λ c j k on here there. absurd (true≢false (sym on ∙ off c)) }

pub none_done : (case : Case) (t : Trace) (flags : List Bool) (kinds : List Kind) → t.counts ≡ counts_of case → ((c : ℕ) → is_flagged flags c ≡ false) → AreKindsDone case (left t) flags kinds
none_done case t flags kinds counts off = record {
  each = λ kind among. record {
    each = λ place low. record {
      each = λ rest c whole flagged. clear_flagged case (left t) flags kind place rest c (sized_left case t counts) flagged (λ all. absurd (some_flagged kind rest whole all));
    };
  };
}
  where
    some_flagged : (kind : Kind) (rest : List ℕ) → length rest + 1 ≡ roles_of kind → ((o : ℕ) → is_among rest o ≡ true → is_flagged flags o ≡ true) → ⊥
    some_flagged kind [] whole all = omega (arith, whole, two_roles kind)
    some_flagged kind (o ∷ os) whole all = true≢false (sym (all o (grind (arith, nat_tests))) ∙ off o)

-- where every single carrier is known
pub known_all : {case : Case} {box : Box} {single known : List Bool} (kinds : List Kind) → ((c : ℕ) → is_flagged single c ≡ true → is_flagged known c ≡ true) → AreKindsDone case box known kinds
    → AreKindsDone case box single kinds
known_all kinds within done = record {
  each = λ kind among. record {
    each = λ place low. record {
      each = λ rest c whole flagged. ((done.each kind among).each place low).each rest c whole (record { each = λ o here some. within o (flagged.each o here some) });
    };
  };
}

-- the same in the words of the trail
pub singles_left : (case : Case) (t : Trace) (sets : List (List Bool)) (flags : List Bool) → has sets ≡ left t → AreSingles case (has sets) flags → AreSingles case (left t) flags
singles_left case t sets flags is singles = subst (λ (box : Box). AreSingles case box flags) is singles

pub few_left : (case : Case) (t : Trace) (flags : List Bool) → t.counts ≡ counts_of case → AreSingles case (left t) flags → HaveFew (left t) flags
few_left case t flags counts singles = few_of_singles case (left t) flags (sized_left case t counts) singles

-- a copy of what is left when all is done
pub rests_copy : (case : Case) (kinds : List Kind) (t : Trace) (sets copy : List (List Bool)) → copy ≡ sets → sizes sets ≡ t.counts → has sets ≡ left t → t.counts ≡ counts_of case
    → AreAllDone case (left t) kinds → Rests case kinds (Some copy)
rests_copy case kinds t sets copy same sized is counts done =
    rests_some (ap sizes same ∙ sized ∙ counts) (subst (λ (box : Box). AreAllDone case box kinds) (sym (ap has same ∙ is)) done)
