-- Channels that are not allowed.
use Rattle.std.proofs.Common.{◌≡◌, ◌∙◌, ℕ, ◌+◌, ◌-◌, ◌<◌, ◌≤◌, Bool, true, false, not, ◌&&◌, ◌⊎◌, List, [], length, get_or, refl, sym, ap, subst, inl, inr, arith, Some, true≢false}
use Rattle.std.proofs.lemmas.Bool.{cases_Bool, cases_lt}
use Rattle.std.proofs.lemmas.Bool.Decides.{nat_tests}
use Rattle.std.proofs.lemmas.List.{get_or_past}
use Rattle.rf_log.specs.Case.{Case, Carrier, no_carrier, carrier_of, count_of, counts_of, is_allowed}
use Rattle.rf_log.specs.Box.{Box, between}
use Rattle.rf_log.specs.Hints.{is_barred}
use Rattle.rf_log.specs.Relations.{IsLiving}
use Rattle.rf_domain.specs.Sets.{has, sizes}
use Rattle.rf_trail.specs.Trace.{Trace, box_of}
use Rattle.rf_propagate.specs.Laws.{IsQuiet}
use Rattle.rf_props.specs.Sweeps.{left}
use Rattle.rf_props.specs.Bans.{IsAllowedAt, AreAllowedBelow, IsFirstFlag, IsRunDone, KeepsAllowed}
use Rattle.rf_props.proofs.StrikeLemmas.{sized_left}
use Rattle.rf_props.proofs.KeptLemmas.{AreLess, GoesOn, goes_on, left_earlier, stays}
use Rattle.rf_base.proofs.NumberLaws.{lt_cases}
use Rattle.rf_log.proofs.BoxLaws.{each_below-from}

-- while flags are looked over
pub record LooksOver (flags : List Bool) (from : ℕ) (wanted : Bool) (at : ℕ) : Type 0 where
  pub later : from ≤ at
  pub known : at ≤ length flags
  pub before : (k : ℕ) → from ≤ k → k < at → get_or flags k false ≡ not wanted

-- what the flags of a run say
pub record IsRun (case : Case) (flags : List Bool) (c from first end : ℕ) : Type 0 where
  pub is : flags ≡ (carrier_of case c).allowed
  pub size : length flags ≡ count_of case c
  pub banned : IsFirstFlag flags from false first
  pub ends : IsFirstFlag flags first true end
  pub some : first < length flags

after_first : (flags : List Bool) (first end : ℕ) → IsFirstFlag flags first true end → get_or flags first false ≡ false → first < length flags → first < end
after_first flags first end ends off low = elim (cases_lt first end) [
  | inl less ↦ less
  | inr over ↦
      let e : end ≡ first = omega (arith, ends.later) in
      absurd (true≢false (sym (ends.here (omega arith)) ∙ ap (λ j. get_or flags j false) e ∙ off))
]

pub run_order : (case : Case) (flags : List Bool) (c from first end : ℕ) → IsRun case flags c from first end → first < end
run_order case flags c from first end run = after_first flags first end run.ends (run.banned.here run.some) run.some

pub run_barred : (case : Case) (flags : List Bool) (c from first end : ℕ) → IsRun case flags c from first end → is_barred case c first (end - 1) ≡ true
run_barred case flags c from first end run =
    each_below-from (count_of case c) (λ k. not (between first (end - 1) k && is_allowed case c k)) (λ k low. at k (cases_Bool (between first (end - 1) k)))
  where
    inside : (k : ℕ) → between first (end - 1) k ≡ true → (first ≤ k) × (k ≤ end - 1)
    inside k e = (grind (arith, nat_tests), grind (arith, nat_tests))

    off : (k : ℕ) → first ≤ k → k < end → is_allowed case c k ≡ false
    off k over under = ap (λ fs. get_or fs k false) (sym run.is) ∙ run.ends.before k over under

    at : (k : ℕ) → (between first (end - 1) k ≡ true) ⊎ (between first (end - 1) k ≡ false) → not (between first (end - 1) k && is_allowed case c k) ≡ true
    at k (inl e) =
        let order : first < end = run_order case flags c from first end run in
        let in_range : (first ≤ k) × (k ≤ end - 1) = inside k e in
        rw (e, off k in_range.0 (omega (arith, in_range.1, order))) refl
    at k (inr e) = rw e refl

-- the first so many indices of a carrier
pub record RunsDone (case : Case) (c : ℕ) (start now : Trace) (from : ℕ) : Type 0 where
  pub on : GoesOn case start now
  pub allowed : (k : ℕ) → k < from → left now c k ≡ true → is_allowed case c k ≡ true

pub runs_start : (case : Case) (c : ℕ) (t : Trace) → RunsDone case c t t 0
runs_start case c t = record { on = stays case t; allowed = λ k none here. absurd (omega arith) }

pub runs_more : {case : Case} {c : ℕ} {start mid now : Trace} {from to : ℕ} → RunsDone case c start mid from → GoesOn case mid now → IsRunDone case (left now) c from to → RunsDone case c start now to
runs_more {case} {c} {start} {mid} {now} {from} {to} so next run = record {
  on = goes_on so.on next;
  allowed = λ k low here. elim (cases_lt k from) [
    | inl earlier ↦ so.allowed k earlier (left_earlier next c k here)
    | inr later ↦ run.allowed k later low here
  ];
}

pub runs_all : (case : Case) (c : ℕ) (start now : Trace) (from : ℕ) → RunsDone case c start now from → now.counts ≡ counts_of case → count_of case c ≤ from → IsAllowedAt case (left now) c
runs_all case c start now from so counts done = record { each = λ k here. so.allowed k (omega (arith, sized_left case now counts c k here)) here }

-- the first so many carriers
pub record BansDone (case : Case) (start now : Trace) (n : ℕ) : Type 0 where
  pub on : GoesOn case start now
  pub allowed : AreAllowedBelow case (left now) n

pub bans_start : (case : Case) (t : Trace) → BansDone case t t 0
bans_start case t = record { on = stays case t; allowed = record { each = λ c none. absurd (omega arith) } }

pub bans_more : {case : Case} {start mid now : Trace} {i : ℕ} → BansDone case start mid i → GoesOn case mid now → IsAllowedAt case (left now) i → BansDone case start now (i + 1)
bans_more {case} {start} {mid} {now} {i} so next here = record {
  on = goes_on so.on next;
  allowed = record {
    each = λ c low. elim (lt_cases c i (omega arith)) [
      | inl earlier ↦ record { each = λ k on. (so.allowed.each c earlier).each k (left_earlier next c k on) }
      | inr last ↦ subst (λ (x : ℕ). IsAllowedAt case (left now) x) (sym last) here
    ];
  };
}

pub bans_quiet : (case : Case) (t : Trace) → t.counts ≡ counts_of case → AreAllowedBelow case (left t) (length case.carriers) → IsLiving case (box_of t) → IsQuiet case [] true (box_of t)
bans_quiet case t counts allowed living = record {
  living = living;
  settled = λ c k here struck. absurd (omega (arith, struck.among.1));
  allowed = λ asked c k here. elim (cases_lt c (length case.carriers)) [
    | inl known ↦ (allowed.each c known).each k here
    | inr beyond ↦
        let none : count_of case c ≡ 0 = ap (λ (x : Carrier). length x.freqs) (get_or_past case.carriers c no_carrier beyond) in
        absurd (omega (arith, sized_left case t counts c k here, none))
  ];
}

-- what is left of less is allowed too
pub allowed_less : {case : Case} {old new : Box} {n : ℕ} → AreLess old new → AreAllowedBelow case old n → AreAllowedBelow case new n
allowed_less less allowed = record { each = λ c low. record { each = λ k here. (allowed.each c low).each k (less c k here) } }

-- a copy of what is left when all of it is allowed
pub allowed_copy : (case : Case) (t : Trace) (sets copy : List (List Bool)) → copy ≡ sets → sizes sets ≡ t.counts → has sets ≡ left t → t.counts ≡ counts_of case
    → AreAllowedBelow case (left t) (length case.carriers) → KeepsAllowed case (Some copy)
allowed_copy case t sets copy same sized is counts allowed = record {
  sized = record { each = λ others some. subst (λ (x : List (List Bool)). sizes x ≡ counts_of case) (unwrapped others some) (ap sizes same ∙ sized ∙ counts) };
  allowed = λ others some.
      subst (λ (x : List (List Bool)). AreAllowedBelow case (has x) (length case.carriers)) (unwrapped others some)
      (subst (λ (box : Box). AreAllowedBelow case box (length case.carriers)) (sym (ap has same ∙ is)) allowed);
}
  where
    unwrapped : (others : List (List Bool)) → Some copy ≡ Some others → copy ≡ others
    unwrapped others some = cc
