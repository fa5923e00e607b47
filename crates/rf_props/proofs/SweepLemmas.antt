-- What a sweep keeps as it goes on.
use Rattle.std.proofs.Common.{◌≡◌, ◌∙◌, ℕ, suc, ◌+◌, ◌-◌, ◌<◌, ◌≤◌, ◌==◌, Bool, true, false, List, [], ◌∷◌, ◌++◌, length, get_or, take, set, refl, sym, ap, subst, inl, inr, arith}
use Rattle.std.proofs.Common.{length-append, append_assoc, insert, is_some, nat_lt, pos, ℤ, ◌≤ℤ◌, ◌↔◌, true≢false, ltb-true, append-nil}
use Rattle.std.specs.List.{list_all}
use Rattle.std.proofs.lemmas.Bool.{cases_Bool, cases_lt, and_parts, and_from, and_left}
use Rattle.std.proofs.lemmas.Bool.Decides.{nat_tests}
use Rattle.std.proofs.lemmas.List.{get_or_past, get_or_default, take_more_set}
use Rattle.std.proofs.lemmas.List.Folds.{list_all-append}
use Rattle.rf_terms.specs.declared.kind.Kind.{Kind}
use Rattle.rf_terms.specs.declared.kind.Kind.TheVariants.{Spacing}
use Rattle.rf_terms.specs.Kinds.{roles_of}
use Rattle.rf_terms.specs.Kinds as table
use Rattle.rf_terms.specs.Windows.{Breaks}
use Rattle.rf_log.specs.Case.{Case, Carrier, no_carrier, count_of, counts_of, freq_of, asked_by, margin_of, is_among}
use Rattle.rf_log.specs.Box.{Box, only_index}
use Rattle.rf_log.proofs.CaseLaws.{known_roles, instance_distinct, among_all}
use Rattle.rf_trail.specs.Trace.{Trace}
use Rattle.rf_props.specs.Flags.{is_flagged, HaveFew, AreFlagged, AreFresh}
use Rattle.rf_props.specs.Sweeps.{left, AreFixed, IsClear, IsSwept, IsKindDone, IsReach, IsReachOf, BreaksWithin, HasNoneOf, HasNoneWithin, KeepsRows, HaveMany}
use Rattle.rf_props.proofs.InsertLemmas.{all_in_insert, among_others, distinct_others, get_insert, not_distinct}
use Rattle.rf_props.proofs.InstanceLemmas.{clear_unbroken}
use Rattle.rf_props.proofs.StrikeLemmas.{sized_left, only_same, fixed_kept, clear_by}
use Rattle.rf_props.proofs.KeptLemmas.{GoesOn, stays, goes_on, left_earlier, clear_less, clear_flagged, swept_on, many_clear}
use Rattle.rf_base.proofs.NumberLaws.{lt_cases}

-- the strikes at the first so many targets
pub record Striking (case : Case) (kind : Kind) (place : ℕ) (others freqs : List ℕ) (start now : Trace) (upto : ℕ) : Type 0 where
  pub on : GoesOn case start now
  pub fixed : AreFixed case (left now) others freqs
  pub clear : (c : ℕ) → c < upto → IsClear case (left now) kind (insert others place c) c

-- a target that is clear stays clear where the others keep their rows
clear_kept : {case : Case} {mid now : Trace} → GoesOn case mid now → mid.counts ≡ counts_of case → (kind : Kind) (place : ℕ) (others : List ℕ) (c : ℕ) → KeepsRows others mid now
    → IsClear case (left mid) kind (insert others place c) c → IsClear case (left now) kind (insert others place c) c
clear_kept {case} {mid} {now} next counts kind place others c rows clear =
    clear_less case (left mid) (left now) (sized_left case now (next.counts ∙ counts)) (left_earlier next) kind (insert others place c) c
    (λ o among other some. sym (only_same case (left mid) (left now) o (rows.each o (among_others others place c o among other)))) clear

pub striking_more : {case : Case} {kind : Kind} {place : ℕ} {others freqs : List ℕ} {start mid now : Trace} {i : ℕ} → Striking case kind place others freqs start mid i
    → mid.counts ≡ counts_of case → GoesOn case mid now → KeepsRows others mid now → IsClear case (left now) kind (insert others place i) i → Striking case kind place others freqs
    start now (i + 1)
striking_more {case} {kind} {place} {others} {freqs} {start} {mid} {now} {i} so counts next rows clear = record {
  on = goes_on so.on next;
  fixed = fixed_kept case (left mid) (left now) others freqs rows.each so.fixed;
  clear = λ c low. elim (lt_cases c i (omega arith)) [
    | inl earlier ↦ clear_kept next counts kind place others c rows (so.clear c earlier)
    | inr last ↦ subst (λ (x : ℕ). IsClear case (left now) kind (insert others place x) x) (sym last) clear
  ];
}

-- a target with nothing left there is passed over
pub striking_past : {case : Case} {kind : Kind} {place : ℕ} {others freqs : List ℕ} {start now : Trace} {i : ℕ} → Striking case kind place others freqs start now i
    → now.counts ≡ counts_of case → IsClear case (left now) kind (insert others place i) i → Striking case kind place others freqs start now (i + 1)
striking_past {case} {kind} {place} {others} {freqs} {start} {now} {i} so counts clear =
    striking_more so counts (stays case now) (record { each = λ o among. refl }) clear

-- a carrier that the case lacks has nothing left
clear_beyond : (case : Case) (t : Trace) (kind : Kind) (roles : List ℕ) (c : ℕ) → t.counts ≡ counts_of case → length case.carriers ≤ c → IsClear case (left t) kind roles c
clear_beyond case t kind roles c counts beyond =
    clear_unbroken case (left t) kind roles c (λ k here. sized_left case t counts c k here)
    (λ k here good sole broken.
    let none : count_of case c ≡ 0 = ap (λ (x : Carrier). length x.freqs) (get_or_past case.carriers c no_carrier beyond) in
    absurd (omega (arith, sized_left case t counts c k here, none)))

-- where no role is open
swept_whole : (case : Case) (has : Box) (flags : List Bool) (kind : Kind) (place : ℕ) (others : List ℕ) → length others + 1 ≡ roles_of kind
    → ((c : ℕ) → IsClear case has kind (insert others place c) c) → IsSwept case has flags kind place others
swept_whole case has flags kind place others size clear = record {
  each = λ rest c whole flagged. at rest c (omega (arith, length-append others rest, whole, size));
}
  where
    at : (rest : List ℕ) (c : ℕ) → length rest ≡ 0 → IsClear case has kind (insert (others ++ rest) place c) c
    at [] c none = subst (λ (xs : List ℕ). IsClear case has kind (insert xs place c) c) (sym (append-nil others)) (clear c)
    at (r ∷ rest) c none = absurd (omega arith)

pub struck_all : (case : Case) (flags : List Bool) (kind : Kind) (place : ℕ) (others freqs : List ℕ) (start now : Trace) (n : ℕ) → Striking case kind place others freqs start now n
    → now.counts ≡ counts_of case → length case.carriers ≤ n → length others + 1 ≡ roles_of kind → IsSwept case (left now) flags kind place others
struck_all case flags kind place others freqs start now n so counts all size = swept_whole case (left now) flags kind place others size (λ c. elim (cases_lt c n) [
  | inl low ↦ so.clear c low
  | inr beyond ↦ clear_beyond case now kind (insert others place c) c counts (omega arith)
])

-- the margin of an instance is not beyond the reach
pub margin_reach : (case : Case) (kind : Kind) (reach : ℕ) (roles : List ℕ) → IsReach case kind reach → margin_of case kind roles ≤ reach
margin_reach case Spacing reach roles most = omega (arith, most.each (get_or roles 0 0), most.each (get_or roles 1 0))
margin_reach case kind reach roles most = most.each (get_or roles (roles_of kind - 1) 0)

pub reach_of_all : (case : Case) (kind : Kind) (place reach : ℕ) (others : List ℕ) → IsReach case kind reach → IsReachOf case kind place others reach
reach_of_all case kind place reach others most = record { each = λ c. margin_reach case kind reach (insert others place c) most }

-- the victim is one of the others, and no target changes what it asks
victim_asks : (case : Case) (kind : Kind) (place asks : ℕ) (others : List ℕ) (c : ℕ) → (kind ≡ Spacing → ⊥) → length others + 1 ≡ roles_of kind → place < length others
    → asks ≡ asked_by case kind (get_or others (length others - 1) 0) → margin_of case kind (insert others place c) ≡ asks
victim_asks case Spacing place asks others c other size low e = absurd (other refl)
victim_asks case kind place asks others c other size low e =
    let last : roles_of kind - 1 ≡ suc (length others - 1) = omega arith in
    ap (asked_by case kind) (ap (λ i. get_or (insert others place c) i 0) last ∙ get_insert others place c (length others - 1) (omega arith) (omega arith)) ∙ sym e

pub reach_of_victim : (case : Case) (kind : Kind) (place asks : ℕ) (others : List ℕ) → (kind ≡ Spacing → ⊥) → length others + 1 ≡ roles_of kind → place < length others
    → asks ≡ asked_by case kind (get_or others (length others - 1) 0) → IsReachOf case kind place others asks
reach_of_victim case kind place asks others other size low e = record { each = λ c. omega (arith, victim_asks case kind place asks others c other size low e) }

-- a target with nothing left where the instance breaks
pub clear_within : (case : Case) (t : Trace) (kind : Kind) (place : ℕ) (others freqs : List ℕ) (lo hi : ℤ) (c : ℕ) → t.counts ≡ counts_of case → c < length case.carriers
    → AreFixed case (left t) others freqs → BreaksWithin case kind place others freqs lo hi → HasNoneOf case (left t) c lo hi → IsClear case (left t) kind (insert others place c) c
clear_within case t kind place others freqs lo hi c counts known fixed within none =
    clear_by case t kind place others freqs c counts known fixed (λ k here low broken. none.none k here (within.each c (freq_of case c k) broken))

-- where no index that is left breaks the kind at its reach
unbroken_swept : (case : Case) (t : Trace) (flags : List Bool) (kind : Kind) (place reach : ℕ) (others freqs : List ℕ) → t.counts ≡ counts_of case
    → length others + 1 ≡ roles_of kind → AreFixed case (left t) others freqs → IsReachOf case kind place others reach
    → ((c k : ℕ) → c < length case.carriers → left t c k ≡ true → Breaks kind place freqs reach (pos (freq_of case c k)) → ⊥) → IsSwept case (left t) flags kind place others
unbroken_swept case t flags kind place reach others freqs counts size fixed most none =
    swept_whole case (left t) flags kind place others size (λ c. elim (cases_lt c (length case.carriers)) [
      | inl known ↦ clear_by case t kind place others freqs c counts known fixed (λ k here low broken. none c k known here (omega (arith, broken, most.each c)))
      | inr beyond ↦ clear_beyond case t kind (insert others place c) c counts beyond
    ])

pub harmless_swept : (case : Case) (t : Trace) (flags : List Bool) (kind : Kind) (place reach : ℕ) (others freqs : List ℕ) → t.counts ≡ counts_of case
    → length others + 1 ≡ roles_of kind → AreFixed case (left t) others freqs → IsReachOf case kind place others reach
    → ((x : ℤ) → Breaks kind place freqs reach x → ⊥) → IsSwept case (left t) flags kind place others
harmless_swept case t flags kind place reach others freqs counts size fixed most none =
    unbroken_swept case t flags kind place reach others freqs counts size fixed most (λ c k known here broken. none (pos (freq_of case c k)) broken)

pub far_swept : (case : Case) (t : Trace) (flags : List Bool) (kind : Kind) (place reach : ℕ) (others freqs : List ℕ) (lo hi : ℤ) → t.counts ≡ counts_of case
    → length others + 1 ≡ roles_of kind → AreFixed case (left t) others freqs → IsReachOf case kind place others reach
    → ((x : ℤ) → Breaks kind place freqs reach x ↔ ((lo ≤ℤ x) × (x ≤ℤ hi))) → HasNoneWithin case (left t) lo hi → IsSwept case (left t) flags kind place others
far_swept case t flags kind place reach others freqs lo hi counts size fixed most window none =
    unbroken_swept case t flags kind place reach others freqs counts size fixed most
    (λ c k known here broken. (none.each c known).none k here ((window (pos (freq_of case c k))).0 broken))

-- a kind of which no carrier asks anything is never broken
pub unasked_done : (case : Case) (t : Trace) (flags : List Bool) (kind : Kind) → t.counts ≡ counts_of case → IsReach case kind 0 → IsKindDone case (left t) flags kind
unasked_done case t flags kind counts most = record {
  each = λ place low. record {
    each = λ rest c whole flagged. clear_unbroken case (left t) kind (insert ([] ++ rest) place c) c (λ k here. sized_left case t counts c k here)
        (λ k here good sole broken. absurd (omega (arith, ltb-true _ _ broken, margin_reach case kind 0 (insert ([] ++ rest) place c) most)));
  };
}

-- the first so many carriers ask no more
pub record ReachUpTo (case : Case) (kind : Kind) (n reach : ℕ) : Type 0 where
  pub each : (c : ℕ) → c < n → asked_by case kind c ≤ reach

-- nothing breaks an instance of which one of the first has not exactly one index
pub many_swept : (case : Case) (t : Trace) (flags : List Bool) (kind : Kind) (place : ℕ) (first : List ℕ) → t.counts ≡ counts_of case
    → HaveMany case (left t) first → IsSwept case (left t) flags kind place first
many_swept case t flags kind place first counts many = record {
  each = λ rest c whole flagged.
      many_clear case (left t) kind place (first ++ rest) c (sized_left case t counts)
      (list_all-append (λ o. is_some (only_index case (left t) o)) first rest ∙ and_left (list_all (λ o. is_some (only_index case (left t) o)) first) _ many.many);
}

-- the first roles with one more
pub role_more : (others : List ℕ) (depth carrier n : ℕ) → length others ≡ 4 → depth < n → n ≤ 4 → take (depth + 1) (set others depth carrier) ≡ take depth others ++ carrier ∷ []
role_more others depth carrier n four low few = take_more_set others depth carrier (omega arith)

-- the sweeps of the first so many turns, in each of which a carrier takes the next role
pub record Sweeping (case : Case) (flags : List Bool) (kind : Kind) (place : ℕ) (first : List ℕ) (carrier : ℕ → ℕ) (start now : Trace) (turns : ℕ) : Type 0 where
  pub on : GoesOn case start now
  pub swept : (turn : ℕ) → turn < turns → IsSwept case (left now) flags kind place (first ++ carrier turn ∷ [])

pub sweeping_start : (case : Case) (flags : List Bool) (kind : Kind) (place : ℕ) (first : List ℕ) (carrier : ℕ → ℕ) (t : Trace) → Sweeping case flags kind place first carrier t t 0
sweeping_start case flags kind place first carrier t = record { on = stays case t; swept = λ turn none. absurd (omega arith) }

pub sweeping_more : {case : Case} {flags : List Bool} {kind : Kind} {place : ℕ} {first : List ℕ} {carrier : ℕ → ℕ} {start mid now : Trace} {i : ℕ}
    → Sweeping case flags kind place first carrier start mid i
    → mid.counts ≡ counts_of case → HaveFew (left mid) flags → GoesOn case mid now → IsSwept case (left now) flags kind place (first ++ carrier i ∷ []) →
    Sweeping case flags kind place first carrier start now (i + 1)
sweeping_more {case} {flags} {kind} {place} {first} {carrier} {start} {mid} {now} {i} so counts few next swept = record {
  on = goes_on so.on next;
  swept = λ turn low. elim (lt_cases turn i (omega arith)) [
    | inl earlier ↦ swept_on next counts few kind place (first ++ carrier turn ∷ []) (so.swept turn earlier)
    | inr last ↦ subst (λ (x : ℕ). IsSwept case (left now) flags kind place (first ++ carrier x ∷ [])) (sym last) swept
  ];
}

-- a carrier that is passed over
pub sweeping_past : {case : Case} {flags : List Bool} {kind : Kind} {place : ℕ} {first : List ℕ} {carrier : ℕ → ℕ} {start now : Trace} {i : ℕ}
    → Sweeping case flags kind place first carrier start now i
    → now.counts ≡ counts_of case → HaveFew (left now) flags → IsSwept case (left now) flags kind place (first ++ carrier i ∷ []) → Sweeping case flags kind place first carrier
    start now (i + 1)
sweeping_past {case} {now = now} so counts few swept = sweeping_more so counts few (stays case now) swept

among_last : (first rest : List ℕ) (c : ℕ) → is_among ((first ++ c ∷ []) ++ rest) c ≡ true
among_last [] rest c = grind (arith, nat_tests)
among_last (x ∷ xs) rest c = elim (cases_Bool (x == c)) [ inl here ↦ rw here | inr other ↦ rw other (among_last xs rest c) ]

-- one that isn't flagged
pub unflagged_swept : (case : Case) (t : Trace) (flags : List Bool) (kind : Kind) (place : ℕ) (first : List ℕ) (r : ℕ) → t.counts ≡ counts_of case → is_flagged flags r ≡ false
    → IsSwept case (left t) flags kind place (first ++ r ∷ [])
unflagged_swept case t flags kind place first r counts off = record {
  each = λ rest c whole flagged.
      clear_flagged case (left t) flags kind place ((first ++ r ∷ []) ++ rest) c (sized_left case t counts) flagged
      (λ all. absurd (true≢false (sym (all r (among_last first rest r)) ∙ off)));
}

-- one that has a role already
pub twice_swept : (case : Case) (t : Trace) (flags : List Bool) (kind : Kind) (place : ℕ) (first : List ℕ) (r : ℕ) → t.counts ≡ counts_of case → is_among first r ≡ true
    → IsSwept case (left t) flags kind place (first ++ r ∷ [])
twice_swept case t flags kind place first r counts among = record {
  each = λ rest c whole flagged. clear_unbroken case (left t) kind (insert ((first ++ r ∷ []) ++ rest) place c) c (λ k here. sized_left case t counts c k here)
      (λ k here good sole broken. not_distinct first rest r among (distinct_others ((first ++ r ∷ []) ++ rest) place c (instance_distinct case kind (insert ((first ++ r ∷ []) ++ rest) place c) good)));
}

-- one that takes the last open role, and is known as all before it are
pub known_swept : (case : Case) (t : Trace) (flags known : List Bool) (kind : Kind) (place : ℕ) (first : List ℕ) (r : ℕ) → IsSwept case (left t) known kind place []
    → length first + 2 ≡ roles_of kind
    → list_all (is_flagged known) first ≡ true → is_flagged known r ≡ true → IsSwept case (left t) flags kind place (first ++ r ∷ [])
known_swept case t flags known kind place first r done last all one = record { each = λ rest c whole flagged. at rest c whole }
  where
    every : (rest : List ℕ) → length ((first ++ r ∷ []) ++ rest) + 1 ≡ roles_of kind → list_all (is_flagged known) ((first ++ r ∷ []) ++ rest) ≡ true
    every [] whole = ap (list_all (is_flagged known)) (append-nil (first ++ r ∷ [])) ∙ list_all-append (is_flagged known) first (r ∷ []) ∙
        and_from _ _ all (and_from (is_flagged known r) true one refl)
    every (o ∷ rest) whole = absurd (omega (arith, length-append (first ++ r ∷ []) (o ∷ rest), length-append first (r ∷ []), whole, last))

    at : (rest : List ℕ) (c : ℕ) → length ((first ++ r ∷ []) ++ rest) + 1 ≡ roles_of kind → IsClear case (left t) kind (insert ((first ++ r ∷ []) ++ rest) place c) c
    at rest c whole = done.each ((first ++ r ∷ []) ++ rest) c whole (record { each = λ o among some. among_all (is_flagged known) ((first ++ r ∷ []) ++ rest) o (every rest whole) among })

-- where each carrier of the case took the next role
pub each_swept : (case : Case) (t : Trace) (flags : List Bool) (kind : Kind) (place : ℕ) (first : List ℕ) → t.counts ≡ counts_of case → (length first + 1 ≡ roles_of kind → ⊥)
    → ((r : ℕ) → r < length case.carriers → IsSwept case (left t) flags kind place (first ++ r ∷ [])) → IsSwept case (left t) flags kind place first
each_swept case t flags kind place first counts open_roles each = record { each = at }
  where
    at : (rest : List ℕ) (c : ℕ) → length (first ++ rest) + 1 ≡ roles_of kind → AreFlagged case (left t) flags (first ++ rest) → IsClear case (left t) kind (insert (first ++ rest) place c) c
    at [] c whole flagged = absurd (open_roles (ap (λ xs. length xs + 1) (sym (append-nil first)) ∙ whole))
    at (r ∷ rest) c whole flagged =
        let is : (first ++ r ∷ []) ++ rest ≡ first ++ r ∷ rest = append_assoc first (r ∷ []) rest in
        elim (cases_lt r (length case.carriers)) [
          | inl low ↦
              subst (λ (xs : List ℕ). IsClear case (left t) kind (insert xs place c) c) is
              ((each r low).each rest c (ap (λ xs. length xs + 1) is ∙ whole) (subst (AreFlagged case (left t) flags) (sym is) flagged))
          | inr beyond ↦ clear_unbroken case (left t) kind (insert (first ++ r ∷ rest) place c) c (λ k here. sized_left case t counts c k here)
              (λ k here good sole broken.
              let known = all_in_insert (λ x. nat_lt x (length case.carriers)) (first ++ r ∷ rest) place c (known_roles case kind (insert (first ++ r ∷ rest) place c) good) in
              let parts = and_parts (list_all (λ x. nat_lt x (length case.carriers)) first) _ (sym (list_all-append (λ x. nat_lt x (length case.carriers)) first (r ∷ rest)) ∙ known.1) in
              let here = and_parts (nat_lt r (length case.carriers)) _ parts.1 in
              absurd (omega (arith, ltb-true r (length case.carriers) here.0)))
        ]

-- where each fresh carrier took the last open role, and those in the others are known
pub fresh_swept : (case : Case) (start now : Trace) (flags known : List Bool) (kind : Kind) (place : ℕ) (first fresh : List ℕ) (n : ℕ)
    → now.counts ≡ counts_of case → AreFresh (length case.carriers) flags known fresh
    → IsSwept case (left now) known kind place [] → length first + 2 ≡ roles_of kind → list_all (is_flagged known) first ≡ true
    → Sweeping case flags kind place first (λ i. get_or fresh i 0) start now n → length fresh ≤ n → IsSwept case (left now) flags kind place first
fresh_swept case start now flags known kind place first fresh n counts new done last all so every = each_swept case now flags kind place first counts (λ whole. absurd (omega arith)) at
  where
    at : (r : ℕ) → r < length case.carriers → IsSwept case (left now) flags kind place (first ++ r ∷ [])
    at r there = elim (cases_Bool (is_flagged flags r)) [
      | inr off ↦ unflagged_swept case now flags kind place first r counts off
      | inl on ↦ elim (cases_Bool (is_flagged known r)) [
        | inl was ↦ known_swept case now flags known kind place first r done last all was
        | inr not_yet ↦
            let turn = new.all r there on not_yet in
            subst (λ (x : ℕ). IsSwept case (left now) flags kind place (first ++ x ∷ [])) (get_or_default fresh turn.0 0 r turn.1 ∙ turn.2) (so.swept turn.0 (omega (arith, turn.1, every)))
      ]
    ]

pub striking_start : (case : Case) (kind : Kind) (place : ℕ) (others freqs : List ℕ) (t : Trace) → AreFixed case (left t) others freqs → Striking case kind place others freqs t t 0
striking_start case kind place others freqs t fixed = record { on = stays case t; fixed = fixed; clear = λ c none. absurd (omega arith) }
