-- When nothing more is struck.
use Rattle.std.proofs.Common.{◌≡◌, ◌∙◌, ℕ, zero, suc, ◌+◌, ◌<◌, ◌≤◌, ◌==◌, Bool, true, false, ◌||◌, List, [], ◌∷◌, length, map, get_or, refl, sym, ap, subst, inl, inr, arith, Result, Ok}
use Rattle.std.proofs.Common.{Err, OnOk, drop, take, ◌-◌, Contains, Some, insert, is_some, true≢false, ne_eqb, eq-eqb, take_all}
use Rattle.std.specs.List.{remove}
use Rattle.std.proofs.lemmas.Bool.{cases_Bool, cases_eq}
use Rattle.std.proofs.lemmas.List.Sums.{list_all-from_AllPass}
use Rattle.std.proofs.lemmas.List.Elements.{Contains-get_or}
use Rattle.rf_terms.specs.declared.kind.Kind.{Kind}
use Rattle.rf_terms.specs.Kinds.{has_victim, roles_of}
use Rattle.rf_log.specs.Case.{Case, count_of, counts_of, freq_of, margin_of, is_instance, is_broken, breaks}
use Rattle.rf_log.specs.Box.{Box, only_index}
use Rattle.rf_log.specs.Relations.{IsStruck, IsSettled, IsLiving}
use Rattle.rf_log.specs.Hints.{indices_with, is_ruled_out}
use Rattle.rf_domain.proofs.CountLaws.{count_bound}
use Rattle.rf_trail.specs.Trace.{Trace, box_of}
use Rattle.rf_propagate.specs.Laws.{IsQuiet}
use Rattle.rf_props.specs.Flags.{AreSingles, HaveFew}
use Rattle.rf_props.specs.Sweeps.{left, has_at_most_one, IsClear, IsSwept, target_role, IsKindDone, AreKindsDone, AreAllDone}
use Rattle.rf_props.proofs.InsertLemmas.{insert_remove, length_remove}
use Rattle.rf_props.proofs.StrikeLemmas.{sized_left}
use Rattle.rf_props.proofs.InstanceLemmas.{ruled_at}
use Rattle.rf_props.proofs.KeptLemmas.{GoesOn, goes_on, stays, swept_on, kind_on, fixed_of, more_fixed, same_fixed, all_done}
use Rattle.rf_base.proofs.NumberLaws.{lt_cases}
use Rattle.rf_log.proofs.CaseLaws.{instance_full}
use Rattle.rf_log.proofs.BoxLaws.{only_below-from}

map_same : (f g : ℕ → ℕ) (xs : List ℕ) → ((i : ℕ) → i < length xs → f (get_or xs i 0) ≡ g (get_or xs i 0)) → map f xs ≡ map g xs
map_same f g [] each = refl
map_same f g (x ∷ xs) each =
    ap (λ y. y ∷ map f xs) (each 0 (omega arith)) ∙ ap (λ ys. g x ∷ ys) (map_same f g xs (λ i low. each (suc i) (omega arith)))

-- a struck index breaks an instance whose other carriers have one index each, as a test
struck_out : (case : Case) (t : Trace) (kinds : List Kind) (c k : ℕ) → t.counts ≡ counts_of case → box_of t c k → (s : IsStruck case kinds (box_of t) c k)
    → is_ruled_out case (left t) s.kind s.roles c k k ≡ true
struck_out case t kinds c k counts here s =
    ruled_at case (left t) s.kind s.roles c k s.is_instance
    (list_all-from_AllPass (λ o. (o == c) || is_some (only_index case (left t) o)) s.roles (λ i d low. some_or (get_or s.roles i d) (Contains-get_or s.roles i d low))) broken
  where
    sole : (r : ℕ) → Contains s.roles r → (r ≡ c → ⊥) → only_index case (left t) r ≡ Some (s.at r)
    sole r among other =
        let one = s.others r among other in
        only_below-from (count_of case r) (left t r) (s.at r) (sized_left case t counts r (s.at r) one.0) one.0 one.1

    some_or : (r : ℕ) → Contains s.roles r → ((r == c) || is_some (only_index case (left t) r)) ≡ true
    some_or r among = elim (cases_eq r c) [
      | inl e ↦ let f : (r == c) ≡ true = eq-eqb r c e in rw f refl
      | inr e ↦ let f : (r == c) ≡ false = ne_eqb r c e in rw (f, sole r among e) refl
    ]

    index : (r : ℕ) → Contains s.roles r → indices_with case (left t) c k r ≡ s.at r
    index r among = elim (cases_eq r c) [
      | inl e ↦ let f : (r == c) ≡ true = eq-eqb r c e in rw f (sym (ap s.at e ∙ s.here))
      | inr e ↦ let f : (r == c) ≡ false = ne_eqb r c e in rw (f, sole r among e) refl
    ]

    broken : breaks case s.kind s.roles (indices_with case (left t) c k) ≡ true
    broken =
        ap (λ fs. is_broken s.kind fs (margin_of case s.kind s.roles)) (map_same (λ r. freq_of case r (indices_with case (left t) c k r)) (λ r. freq_of case r (s.at r)) s.roles
        (λ i low. ap (freq_of case (get_or s.roles i 0)) (index (get_or s.roles i 0) (Contains-get_or s.roles i 0 low)))) ∙ s.breaks

-- where every role of every kind is done, nothing more is struck
pub settled_by : (case : Case) (t : Trace) (kinds : List Kind) → t.counts ≡ counts_of case → AreAllDone case (left t) kinds → IsSettled case kinds (box_of t)
settled_by case t kinds counts done c k here s =
    let at = s.target in
    let place : ℕ = at.0 in
    let is : insert (remove s.roles place) place c ≡ s.roles = ap (insert (remove s.roles place) place) (sym at.2) ∙ insert_remove s.roles place c at.1 in
    let size : length s.roles ≡ roles_of s.kind = instance_full case s.kind s.roles s.is_instance in
    let clear : IsClear case (left t) s.kind (insert (remove s.roles place) place c) c =
    done.each s.kind s.among place (omega (arith, at.1, size)) (remove s.roles place) c (length_remove s.roles place at.1 ∙ size) in
    true≢false (sym (struck_out case t kinds c k counts here s) ∙ ap (λ rs. is_ruled_out case (left t) s.kind rs c k k) (sym is) ∙ clear.each k here)

-- the sweeps of the first so many turns
pub record TurnsDone (case : Case) (flags : List Bool) (kind : Kind) (start now : Trace) (upto : ℕ) : Type 0 where
  pub on : GoesOn case start now
  pub done : (turn : ℕ) → turn < upto → IsSwept case (left now) flags kind (target_role kind turn) []

pub turns_start : (case : Case) (flags : List Bool) (kind : Kind) (t : Trace) → TurnsDone case flags kind t t 0
turns_start case flags kind t = record { on = stays case t; done = λ turn none. absurd (omega arith) }

pub turns_more : {case : Case} {flags : List Bool} {kind : Kind} {start mid now : Trace} {i : ℕ} → TurnsDone case flags kind start mid i
    → mid.counts ≡ counts_of case → HaveFew (left mid) flags → GoesOn case mid now
    → IsSwept case (left now) flags kind (target_role kind i) [] → TurnsDone case flags kind start now (i + 1)
turns_more {case} {flags} {kind} {start} {mid} {now} {i} so counts few next swept = record {
  on = goes_on so.on next;
  done = λ turn low. elim (lt_cases turn i (omega arith)) [
    | inl earlier ↦ swept_on next counts few kind (target_role kind turn) [] (so.done turn earlier)
    | inr last ↦ subst (λ (x : ℕ). IsSwept case (left now) flags kind (target_role kind x) []) (sym last) swept
  ];
}

-- each turn is a role's
pub role_of_turn : (kind : Kind) (turn : ℕ) → turn < roles_of kind → target_role kind turn < roles_of kind
role_of_turn kind turn low = elim (cases_Bool (has_victim kind)) [
  | inl some ↦ rw some (omega (arith, low))
  | inr none ↦ rw none low
]

-- and each role has the turn that has its turn
turn_of_role : (kind : Kind) (place : ℕ) → place < roles_of kind → target_role kind (target_role kind place) ≡ place
turn_of_role kind place low = elim (cases_Bool (has_victim kind)) [
  | inl some ↦ rw some (omega (arith, low))
  | inr none ↦ rw none refl
]

pub turns_all : {case : Case} {flags : List Bool} {kind : Kind} {start now : Trace} {n : ℕ} → TurnsDone case flags kind start now n → roles_of kind ≤ n → IsKindDone case (left now) flags kind
turns_all {case} {flags} {kind} {start} {now} so all = record {
  each = λ place low.
      subst (λ (x : ℕ). IsSwept case (left now) flags kind x []) (turn_of_role kind place low) (so.done (target_role kind place) (omega (arith, role_of_turn kind place low, all)));
}

-- one kind and then the others
kinds_more : {case : Case} {flags : List Bool} {mid now : Trace} (kind : Kind) (kinds : List Kind) → mid.counts ≡ counts_of case → HaveFew (left mid) flags → GoesOn case mid now
    → IsKindDone case (left mid) flags kind → AreKindsDone case (left now) flags kinds → AreKindsDone case (left now) flags (kind ∷ kinds)
kinds_more {case} {flags} {mid} {now} kind kinds counts few next one rest = record { each = λ k among. at k among }
  where
    at : (k : Kind) → Contains (kind ∷ kinds) k → IsKindDone case (left now) flags k
    at k (zero, low, is) = subst (λ (x : Kind). IsKindDone case (left now) flags x) is (kind_on next counts few kind one)
    at k (suc i, low, is) = rest.each k (i, omega arith, is)

-- a round after which as many carriers as before have at most one index
pub quiet_round : (case : Case) (kinds : List Kind) (single : List Bool) (start now : Trace) (x y : ℕ) → GoesOn case start now → start.counts ≡ counts_of case → AreSingles case (left start) single
    → AreKindsDone case (left now) single kinds → x ≡ fixed_of now → y ≡ fixed_of start → x ≡ y → AreAllDone case (left now) kinds
quiet_round case kinds single start now x y on counts singles done is was same_count = all_done on counts (same_fixed on (sym is ∙ same_count ∙ was)) singles kinds done

pub quiet_by : (case : Case) (kinds : List Kind) (now : Trace) → now.counts ≡ counts_of case → AreAllDone case (left now) kinds → IsLiving case (box_of now) → IsQuiet case kinds false (box_of now)
quiet_by case kinds now counts done living = record {
  living = living;
  settled = settled_by case now kinds counts done;
  allowed = λ asked. absurd (true≢false (sym asked));
}

-- how many carriers have two indices or more
abbrev pub open_of : Trace → ℕ
open_of t = length t.counts - fixed_of t

pub fewer_open : (case : Case) (start now : Trace) (x y : ℕ) → GoesOn case start now → x ≡ fixed_of now → y ≡ fixed_of start → (x ≡ y → ⊥) → open_of now < open_of start
fewer_open case start now x y on is was other =
    let size : length now.counts ≡ length start.counts = ap length on.counts in
    omega (arith, more_fixed on, is, was, other, size, count_bound (has_at_most_one now) (length now.counts))

-- the same with the answer of the second call
pub kinds_after : {A E : Type 0} {case : Case} {flags : List Bool} {mid now : Trace} (all : List Kind) (kind : Kind) (kinds : List Kind) (r : Result A E) → kind ∷ kinds ≡ all
    → mid.counts ≡ counts_of case → HaveFew (left mid) flags → GoesOn case mid now
    → IsKindDone case (left mid) flags kind → OnOk r (AreKindsDone case (left now) flags kinds) → OnOk r (AreKindsDone case (left now) flags all)
kinds_after {case = case} {flags = flags} {now = now} all kind kinds (Ok x) is counts few next one rest =
    subst (λ (ks : List Kind). AreKindsDone case (left now) flags ks) is (kinds_more kind kinds counts few next one rest)
kinds_after all kind kinds (Err x) is counts few next one rest = rest

pub others_done : {case : Case} {has : Box} {flags : List Bool} (all : List Kind) (kind : Kind) (kinds : List Kind) → kind ∷ kinds ≡ all
    → AreKindsDone case has flags all → AreKindsDone case has flags kinds
others_done {case} {has} {flags} all kind kinds is done = record { each = λ k among. (subst (λ (ks : List Kind). AreKindsDone case has flags ks) (sym is) done).each k (later k among) }
  where
    later : (k : Kind) → Contains kinds k → Contains (kind ∷ kinds) k
    later k (i, low, e) = (suc i, omega arith, e)

pub first_and_rest : (xs : List Kind) (d : Kind) → 1 ≤ length xs → get_or xs 0 d ∷ take (length xs - 1) (drop 1 xs) ≡ xs
first_and_rest [] d some = absurd (omega arith)
first_and_rest (x ∷ xs) d some = ap (λ ys. x ∷ ys) (take_all (length (x ∷ xs) - 1) xs (omega arith))
