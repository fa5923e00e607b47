-- What is done stays done while less and less is left.
use Rattle.std.proofs.Common.{◌≡◌, ◌∙◌, ℕ, ◌<◌, ◌≤◌, ◌==◌, Bool, true, false, ◌||◌, ◌⊎◌, List, [], ◌∷◌, ◌++◌, length, map, refl, sym, ap, subst, inl, inr, arith}
use Rattle.std.specs.Prelude.{Option, Some, None, insert, is_some}
use Rattle.std.specs.List.{list_all}
use Rattle.std.proofs.lemmas.Bool.{cases_Bool, cases_lt, cases_eq, and_parts, and_from, true≢false, ne_eqb, eq-eqb, le-leb, leb-true}
use Rattle.std.proofs.lemmas.Bool.Decides.{nat_tests}
use Rattle.std.proofs.lemmas.List.{get_or_past}
use Rattle.rf_terms.specs.declared.kind.Kind.{Kind}
use Rattle.rf_log.specs.Case.{Case, count_of, counts_of, freq_of, margin_of, is_among, is_broken, breaks}
use Rattle.rf_log.specs.Box.{Box, only_index}
use Rattle.rf_log.specs.Hints.{Line, indices_with}
use Rattle.rf_domain.specs.Indices.{count_below}
use Rattle.rf_domain.specs.Sets.{size_of}
use Rattle.rf_domain.proofs.CountLaws.{count_mono, count_same, count_sole, count_alone, count_zero}
use Rattle.rf_trail.specs.Trace.{Trace, has_of}
use Rattle.rf_propagate.specs.Laws.{Extends, same}
use Rattle.rf_propagate.proofs.BothLaws.{grows_on, left_before}
use Rattle.rf_props.specs.Flags.{is_flagged, AreSingles, HaveFew, AreFlagged}
use Rattle.rf_props.specs.Sweeps.{left, has_at_most_one, NoneFixed, IsClear, IsSwept, IsReady, IsKindDone, AreKindsDone, AreAllDone}
use Rattle.rf_props.proofs.CountLemmas.{count_any}
use Rattle.rf_props.proofs.InsertLemmas.{all_in_insert, among_others}
use Rattle.rf_props.proofs.InstanceLemmas.{clear_unbroken, ruled_at}
use Rattle.rf_props.proofs.StrikeLemmas.{sized_left, apart_of}
use Rattle.rf_log.proofs.CaseLaws.{among_all}
use Rattle.rf_log.proofs.BoxLaws.{only_below-is, only_below-from, only_below-sound}

-- the trail went on, and each new entry has a reason
pub record GoesOn (case : Case) (old new : Trace) : Type 0 where
  pub counts : new.counts ≡ old.counts
  pub sound : (lines : List Line) → Extends case lines old.entries new.entries

pub stays : (case : Case) (t : Trace) → GoesOn case t t
stays case t = record { counts = refl; sound = λ lines. same }

pub goes_on : {case : Case} {a b c : Trace} → GoesOn case a b → GoesOn case b c → GoesOn case a c
goes_on first second = record { counts = second.counts ∙ first.counts; sound = λ lines. grows_on (first.sound lines) (second.sound lines) }

-- what is left later was left before
pub left_earlier : {case : Case} {a b : Trace} → GoesOn case a b → (c k : ℕ) → left b c k ≡ true → left a c k ≡ true
left_earlier {case} {a} {b} on c k here =
    left_before a.counts (on.sound []) c k (subst (λ (ns : List ℕ). has_of ns b.entries c k ≡ true) on.counts here)

-- a carrier with at most one index keeps at most one
pub few_stay : {case : Case} {a b : Trace} → GoesOn case a b → (c : ℕ) → has_at_most_one a c ≡ true → has_at_most_one b c ≡ true
few_stay {case} {a} {b} on c few =
    let less : count_below (left b c) (size_of a.counts c) ≤ count_below (left a c) (size_of a.counts c) =
    count_mono (left b c) (left a c) (left_earlier on c) (size_of a.counts c) in
    let had : count_below (left a c) (size_of a.counts c) ≤ 1 = leb-true _ _ few in
    let size : size_of b.counts c ≡ size_of a.counts c = ap (λ ns. size_of ns c) on.counts in
    le-leb _ _ (subst (λ (n : ℕ). count_below (left b c) n ≤ 1) (sym size) (omega (arith, less, had)))

-- the one index of a carrier was its one index before
only_before : {case : Case} {a b : Trace} → GoesOn case a b → a.counts ≡ counts_of case → NoneFixed a b → (o k : ℕ) → only_index case (left b) o ≡ Some k → only_index case (left a) o ≡ Some k
only_before {case} {a} {b} on counts still o k only =
    only_below-from n (left a o) k here.0 had (λ j there. count_alone (left a o) n one j k (sized_left case a counts o j there) here.0 there had)
  where
    n : ℕ
    n = count_of case o

    counts' : b.counts ≡ counts_of case
    counts' = on.counts ∙ counts

    here : (k < count_of case o) × (left b o k ≡ true)
    here = only_below-sound (count_of case o) (left b o) k only

    had : left a o k ≡ true
    had = left_earlier on o k here.1

    few : has_at_most_one b o ≡ true
    few =
        let size : size_of b.counts o ≡ count_of case o = ap (λ ns. size_of ns o) counts' ∙ count_any case o in
        let sole : count_below (left b o) (count_of case o) ≡ 1 =
        count_sole (left b o) (count_of case o) k here.0 here.1 (λ j there. only_below-is (count_of case o) (left b o) k j only (sized_left case b counts' o j there) there) in
        le-leb _ _ (subst (λ (m : ℕ). count_below (left b o) m ≤ 1) (sym size) (omega (arith, sole)))

    one : count_below (left a o) (count_of case o) ≡ 1
    one =
        let size : size_of a.counts o ≡ count_of case o = ap (λ ns. size_of ns o) counts ∙ count_any case o in
        let most : count_below (left a o) (count_of case o) ≤ 1 = subst (λ (m : ℕ). count_below (left a o) m ≤ 1) size (leb-true _ _ (still.each o few)) in
        elim (cases_lt 0 (count_below (left a o) (count_of case o))) [
          | inr none ↦ absurd (true≢false (sym had ∙ count_zero (left a o) (count_of case o) (omega (arith, none)) k here.0))
          | inl some ↦ omega (arith, most, some)
        ]

one_role : (case : Case) (old new : Box) (c k o : ℕ) → ((o == c) ≡ false → is_some (only_index case new o) ≡ true → only_index case old o ≡ only_index case new o)
    → ((o == c) || is_some (only_index case new o)) ≡ true → (o ≡ c) ⊎ (o ≡ c → ⊥)
    → (((o == c) || is_some (only_index case old o)) ≡ true) × (freq_of case o (indices_with case old c k o) ≡ freq_of case o (indices_with case new c k o))
one_role case old new c k o was_same known (inl e) = let here : (o == c) ≡ true = eq-eqb o c e in (rw here, rw here)
one_role case old new c k o was_same known (inr e) =
    let other : (o == c) ≡ false = ne_eqb o c e in
    let some : is_some (only_index case new o) ≡ true = rw other at known in
    let was : only_index case old o ≡ only_index case new o = was_same other some in
    (rw (other, was) some, rw (other, was))

-- the other roles had these indices as their one index before
abbrev pub WereSame : Case → Box → Box → ℕ → List ℕ → Type 0
WereSame case old new c roles = (o : ℕ) → is_among roles o ≡ true → (o == c) ≡ false → is_some (only_index case new o) ≡ true → only_index case old o ≡ only_index case new o

among_first : (o : ℕ) (os : List ℕ) → is_among (o ∷ os) o ≡ true
among_first o os = grind (arith, nat_tests)

among_later : (o : ℕ) (os : List ℕ) (r : ℕ) → is_among os r ≡ true → is_among (o ∷ os) r ≡ true
among_later o os r among = grind (arith, nat_tests)

-- the roles of an instance were fixed before, with the same frequencies
each_role : (case : Case) (old new : Box) (c k : ℕ) (roles : List ℕ) → WereSame case old new c roles → list_all (λ o. (o == c) || is_some (only_index case new o)) roles ≡ true
    → (list_all (λ o. (o == c) || is_some (only_index case old o)) roles ≡ true)
    × (map (λ o. freq_of case o (indices_with case old c k o)) roles ≡ map (λ o. freq_of case o (indices_with case new c k o)) roles)
each_role case old new c k [] was_same all = (refl, refl)
each_role case old new c k (o ∷ os) was_same all =
    let parts = and_parts ((o == c) || is_some (only_index case new o)) _ all in
    let here = one_role case old new c k o (was_same o (among_first o os)) parts.0 (cases_eq o c) in
    let rest = each_role case old new c k os (λ r among. was_same r (among_later o os r among)) parts.1 in (
      and_from _ _ here.0 rest.0,
      ap (λ f. f ∷ map (λ r. freq_of case r (indices_with case old c k r)) os) here.1 ∙ ap (λ fs. freq_of case o (indices_with case new c k o) ∷ fs) rest.1,
    )

-- each index of the box is one of its carrier's
abbrev pub AreSized : Case → Box → Type 0
AreSized case has = (c k : ℕ) → has c k ≡ true → k < count_of case c

-- each index of the second box is in the first
abbrev pub AreLess : Box → Box → Type 0
AreLess old new = (c k : ℕ) → new c k ≡ true → old c k ≡ true

-- what is clear stays clear with less, where the other roles were the same
pub clear_less : (case : Case) (old new : Box) → AreSized case new → AreLess old new → (kind : Kind) (roles : List ℕ) (c : ℕ) → WereSame case old new c roles
    → IsClear case old kind roles c → IsClear case new kind roles c
clear_less case old new sized less kind roles c was_same clear =
    clear_unbroken case new kind roles c (λ k here. sized c k here)
    (λ k here good sole broken.
    let was = each_role case old new c k roles was_same sole in
    let broken' : breaks case kind roles (indices_with case old c k) ≡ true = ap (λ fs. is_broken kind fs (margin_of case kind roles)) was.1 ∙ broken in
    true≢false (sym (ruled_at case old kind roles c k good was.0 broken') ∙ clear.each k (less c k here)))

-- a carrier with at most one index had its one index before
pub only_few : (case : Case) (old new : Box) (flags : List Bool) → AreLess old new → HaveFew old flags → (o : ℕ) → is_flagged flags o ≡ true → is_some (only_index case new o) ≡ true
    → only_index case old o ≡ only_index case new o
only_few case old new flags less few o flagged some = by (only_index case new o) refl some
  where
    by : (x : Option ℕ) → only_index case new o ≡ x → is_some x ≡ true → only_index case old o ≡ only_index case new o
    by None e none = absurd (true≢false (sym none))
    by (Some k) e some =
        let here = only_below-sound (count_of case o) (new o) k e in
        let had : old o k ≡ true = less o k here.1 in
        only_below-from (count_of case o) (old o) k here.0 had (λ j there. few.each o j k flagged there had) ∙ sym e

pub few_less : {old new : Box} {flags : List Bool} → AreLess old new → HaveFew old flags → HaveFew new flags
few_less less few = record { each = λ c j k flagged here there. few.each c j k flagged (less c j here) (less c k there) }

-- a carrier with many indices is in no struck instance
many_among : (case : Case) (has : Box) (xs : List ℕ) (c : ℕ) → is_among xs c ≡ false → list_all (λ o. (o == c) || is_some (only_index case has o)) xs ≡ true
    → list_all (λ o. is_some (only_index case has o)) xs ≡ true
many_among case has [] c apart all = refl
many_among case has (x ∷ xs) c apart all =
    let parts = and_parts ((x == c) || is_some (only_index case has x)) _ all in
    let other : (x == c) ≡ false = grind (arith, nat_tests) in
    let rest : is_among xs c ≡ false = grind (arith, nat_tests) in
    let here : is_some (only_index case has x) ≡ true = rw other at parts.0 in
    rw here (many_among case has xs c rest parts.1)

-- nothing breaks an instance of which another carrier has not exactly one index
pub many_clear : (case : Case) (has : Box) (kind : Kind) (place : ℕ) (others : List ℕ) (c : ℕ) → AreSized case has → list_all (λ o. is_some (only_index case has o)) others ≡ false
    → IsClear case has kind (insert others place c) c
many_clear case has kind place others c sized many =
    clear_unbroken case has kind (insert others place c) c (λ k here. sized c k here)
    (λ k here good sole broken.
    let apart = apart_of case kind others place c good in
    let all = all_in_insert (λ o. (o == c) || is_some (only_index case has o)) others place c sole in
    true≢false (sym (many_among case has others c apart all.1) ∙ many))

-- where the others have one index each, they are flagged, and else there is nothing to do
pub clear_flagged : (case : Case) (new : Box) (flags : List Bool) (kind : Kind) (place : ℕ) (others : List ℕ) (c : ℕ) → AreSized case new → AreFlagged case new flags others
    → (((o : ℕ) → is_among others o ≡ true → is_flagged flags o ≡ true) → IsClear case new kind (insert others place c) c) → IsClear case new kind (insert others place c) c
clear_flagged case new flags kind place others c sized flagged clear = elim (cases_Bool (list_all (λ o. is_some (only_index case new o)) others)) [
  | inl all ↦ clear (λ o among. flagged.each o among (among_all (λ x. is_some (only_index case new x)) others o all among))
  | inr many ↦ many_clear case new kind place others c sized many
]

were_same : (case : Case) (old new : Box) (flags : List Bool) (place : ℕ) (others : List ℕ) (c : ℕ) → AreLess old new → HaveFew old flags
    → ((o : ℕ) → is_among others o ≡ true → is_flagged flags o ≡ true)
    → WereSame case old new c (insert others place c)
were_same case old new flags place others c less few flagged = λ o among other some. only_few case old new flags less few o (flagged o (among_others others place c o among other)) some

-- what is swept stays swept with less
pub swept_less : (case : Case) (old new : Box) (flags : List Bool) → AreSized case new → AreLess old new → HaveFew old flags → (kind : Kind) (place : ℕ) (first : List ℕ)
    → IsSwept case old flags kind place first → IsSwept case new flags kind place first
swept_less case old new flags sized less few kind place first swept = record {
  each = λ rest c whole flagged.
      clear_flagged case new flags kind place (first ++ rest) c sized flagged
      (λ all. clear_less case old new sized less kind (insert (first ++ rest) place c) c (were_same case old new flags place (first ++ rest) c less few all)
      (swept.each rest c whole (record { each = λ o among some. all o among })));
}

-- the same for what is done with all carriers
pub done_less : (case : Case) (old new : Box) (flags : List Bool) (kinds : List Kind) → AreSized case new → AreLess old new → HaveFew old flags
    → AreAllDone case old kinds → AreKindsDone case new flags kinds
done_less case old new flags kinds sized less few done = record {
  each = λ kind among. record {
    each = λ place low. record {
      each = λ rest c whole flagged.
          clear_flagged case new flags kind place rest c sized flagged
          (λ all. clear_less case old new sized less kind (insert rest place c) c (were_same case old new flags place rest c less few all) (done.each kind among place low rest c whole));
    };
  };
}

pub few_on : {case : Case} {a b : Trace} {flags : List Bool} → GoesOn case a b → HaveFew (left a) flags → HaveFew (left b) flags
few_on on few = few_less (left_earlier on) few

pub swept_on : {case : Case} {a b : Trace} {flags : List Bool} → GoesOn case a b → a.counts ≡ counts_of case → HaveFew (left a) flags → (kind : Kind) (place : ℕ) (first : List ℕ)
    → IsSwept case (left a) flags kind place first → IsSwept case (left b) flags kind place first
swept_on {case} {a} {b} {flags} on counts few kind place first swept =
    swept_less case (left a) (left b) flags (sized_left case b (on.counts ∙ counts)) (left_earlier on) few kind place first swept

pub kind_on : {case : Case} {a b : Trace} {flags : List Bool} → GoesOn case a b → a.counts ≡ counts_of case → HaveFew (left a) flags → (kind : Kind)
    → IsKindDone case (left a) flags kind → IsKindDone case (left b) flags kind
kind_on on counts few kind done = record { each = λ place low. swept_on on counts few kind place [] (done.each place low) }

pub kinds_on : {case : Case} {a b : Trace} {flags : List Bool} → GoesOn case a b → a.counts ≡ counts_of case → HaveFew (left a) flags → (kinds : List Kind)
    → AreKindsDone case (left a) flags kinds → AreKindsDone case (left b) flags kinds
kinds_on on counts few kinds done = record { each = λ kind among. kind_on on counts few kind (done.each kind among) }

pub ready_on : {case : Case} {a b : Trace} {single known : List Bool} {kind : Kind} {place : ℕ} → GoesOn case a b → a.counts ≡ counts_of case
    → IsReady case (left a) single known kind place → IsReady case (left b) single known kind place
ready_on {kind = kind} {place = place} on counts ready = record { few = few_on on ready.few; few_known = few_on on ready.few_known; done = swept_on on counts ready.few_known kind place [] ready.done }

-- where no carrier came to its last index, what is done with the carriers that were single is done with all
pub all_done : {case : Case} {start now : Trace} {single : List Bool} → GoesOn case start now → start.counts ≡ counts_of case → NoneFixed start now
    → AreSingles case (left start) single → (kinds : List Kind)
    → AreKindsDone case (left now) single kinds → AreAllDone case (left now) kinds
all_done {case} {start} {now} {single} on counts still singles kinds done = record {
  each = λ kind among place low others c whole.
      ((done.each kind among).each place low).each others c whole (record { each = λ o here some. singles.all o (was_single o some) });
}
  where
    was_single : (o : ℕ) → is_some (only_index case (left now) o) ≡ true → is_some (only_index case (left start) o) ≡ true
    was_single o some = by (only_index case (left now) o) refl some
      where
        by : (x : Option ℕ) → only_index case (left now) o ≡ x → is_some x ≡ true → is_some (only_index case (left start) o) ≡ true
        by None e none = absurd (true≢false (sym none))
        by (Some k) e some = ap is_some (only_before on counts still o k e)

-- as many carriers as before have at most one index
abbrev pub fixed_of : Trace → ℕ
fixed_of t = count_below (has_at_most_one t) (length t.counts)

pub more_fixed : {case : Case} {a b : Trace} → GoesOn case a b → fixed_of a ≤ fixed_of b
more_fixed {case} {a} {b} on =
    subst (λ (n : ℕ). fixed_of a ≤ count_below (has_at_most_one b) n) (sym (ap length on.counts))
    (count_mono (has_at_most_one a) (has_at_most_one b) (few_stay on) (length a.counts))

few_beyond : (t : Trace) (c : ℕ) → length t.counts ≤ c → has_at_most_one t c ≡ true
few_beyond t c beyond =
    let none : size_of t.counts c ≡ 0 = get_or_past t.counts c 0 beyond in
    rw none refl

pub same_fixed : {case : Case} {a b : Trace} → GoesOn case a b → fixed_of b ≡ fixed_of a → NoneFixed a b
same_fixed {case} {a} {b} on e = record {
  each = λ c few. elim (cases_lt c (length a.counts)) [
    | inl known ↦ count_same (has_at_most_one a) (has_at_most_one b) (few_stay on) (length a.counts) same_count c known ∙ few
    | inr beyond ↦ few_beyond a c beyond
  ];
}
  where
    same_count : count_below (has_at_most_one a) (length a.counts) ≡ count_below (has_at_most_one b) (length a.counts)
    same_count = sym e ∙ ap (count_below (has_at_most_one b)) (ap length on.counts)
