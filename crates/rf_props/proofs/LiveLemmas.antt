-- Marks of what may be left.
use Rattle.std.proofs.Common.{◌≡◌, ◌∙◌, ℕ, ◌+◌, ◌-◌, ◌/◌, ◌^◌, ◌<◌, ◌≤◌, Bool, true, false, not, ◌⊎◌, List, [], length, get_or, sym, ap, subst, inl, inr, arith, pow_pos}
use Rattle.std.specs.Prelude.{nat_le, pos, ℤ, ◌≤ℤ◌, ◌<ℤ◌, ◌↔◌}
use Rattle.std.specs.List.Sorted.{IsStrictlyIncreasing}
use Rattle.std.proofs.Math.Nat.{div-mul-le_self}
use Rattle.std.proofs.lemmas.Nat.{le-div}
use Rattle.std.proofs.lemmas.Bool.{cases_Bool, cases_lt, and_parts, and_from, leb-true, true≢false, or_right, or_left}
use Rattle.std.proofs.lemmas.Int.{ints}
use Rattle.rf_terms.specs.Forms.{AreFrequencies}
use Rattle.rf_log.specs.Case.{Case, carrier_of, count_of, counts_of, freq_of}
use Rattle.rf_log.specs.Box.{Box}
use Rattle.rf_domain.specs.Indices.{flag, between, HasNoneFrom, IsNext, IsRun}
use Rattle.rf_domain.specs.Sets.{has, with_all, without}
use Rattle.rf_trail.specs.Trace.{Trace}
use Rattle.rf_props.specs.Sweeps.{left, HasNoneOf, HasNoneWithin}
use Rattle.rf_props.specs.Ranges.{IsIn, AreBelow}
use Rattle.rf_props.specs.Live.{Marks, cell_of, is_marked, IsMarkedAt, AreMarked}
use Rattle.rf_props.proofs.KeptLemmas.{GoesOn, left_earlier}
use Rattle.rf_props.proofs.RangeLemmas.{rising_le, from_first}
use Rattle.rf_props.proofs.StrikeLemmas.{sized_left}
use Rattle.rf_base.proofs.NumberLaws.{lt_cases}
use Rattle.rf_domain.proofs.RangeLaws.{in_range}

-- the higher frequency has no lower cell
parts_mono : (a b d : ℕ) → 0 < d → a ≤ b → a / d ≤ b / d
parts_mono a b d some less = le-div (a / d) b d some (omega (arith, div-mul-le_self a d, less))

cell_mono : (m : Marks) (f g : ℕ) → f ≤ g → cell_of m f ≤ cell_of m g
cell_mono m f g less =
    let parts : (f - m.base) / 2 ^ m.shift ≤ (g - m.base) / 2 ^ m.shift = parts_mono (f - m.base) (g - m.base) (2 ^ m.shift) (pow_pos m.shift) (omega arith) in
    omega arith

abbrev with_cells : Marks → List (List Bool) → Marks
with_cells m sets = record { base = m.base; shift = m.shift; cells = sets }

pub mark_marks : (m : Marks) (sets : List (List Bool)) (first last lo hi f : ℕ) → first ≡ cell_of m lo → last ≡ cell_of m hi → has sets ≡ with_all (has m.cells) 0 (between first last)
    → lo ≤ f → f ≤ hi → is_marked (with_cells m sets) f ≡ true
mark_marks m sets first last lo hi f is_first is_last is over under =
    let low : first ≤ cell_of m f = omega (arith, is_first, cell_mono m lo f over) in
    let high : cell_of m f ≤ last = omega (arith, is_last, cell_mono m f hi under) in
    ap (λ h. h 0 (cell_of m f)) is ∙ or_right (has m.cells 0 (cell_of m f)) (between first last (cell_of m f)) (in_range first last (cell_of m f) low high)

pub mark_keeps : (m : Marks) (sets : List (List Bool)) (first last f : ℕ) → has sets ≡ with_all (has m.cells) 0 (between first last) → is_marked m f ≡ true → is_marked (with_cells m sets) f ≡ true
mark_keeps m sets first last f is marked = ap (λ h. h 0 (cell_of m f)) is ∙ or_left (has m.cells 0 (cell_of m f)) (between first last (cell_of m f)) marked

-- no cell from that of the least to that of the greatest frequency has a mark
pub far_next : (m : Marks) (from next last lo hi f : ℕ) → from ≡ cell_of m lo → last ≡ cell_of m hi → IsNext (get_or m.cells 0 []) from next → last < next
    → lo ≤ f → f ≤ hi → is_marked m f ≡ false
far_next m from next last lo hi f is_from is_last here beyond over under =
    here.least (cell_of m f) (omega (arith, is_from, cell_mono m lo f over)) (omega (arith, is_last, cell_mono m f hi under, beyond))

pub far_none : (m : Marks) (from lo f : ℕ) → from ≡ cell_of m lo → HasNoneFrom (get_or m.cells 0 []) from → lo ≤ f → is_marked m f ≡ false
far_none m from lo f is_from none over = none.none (cell_of m f) (omega (arith, is_from, cell_mono m lo f over))

above_low : (lo : ℤ) (low f : ℕ) → (pos f <ℤ lo → f ≤ low) → low < f → lo ≤ℤ pos f
above_low lo low f below later = grind (arith, ints)

below_high : (hi : ℤ) (high f : ℕ) → (hi <ℤ pos f → high ≤ f) → f < high → pos f ≤ℤ hi
below_high hi high f above earlier = grind (arith, ints)

-- a frequency whose cell lies between those of two others lies between them
pub unmark_keeps : (m : Marks) (sets : List (List Bool)) (first end low high f : ℕ) (lo hi : ℤ) → first ≡ cell_of m low + 1 → end ≡ cell_of m high
    → has sets ≡ without (has m.cells) 0 (between first (end - 1))
    → (pos f <ℤ lo → f ≤ low) → (hi <ℤ pos f → high ≤ f) → first < end → (IsIn lo hi f → ⊥) → is_marked m f ≡ true → is_marked (with_cells m sets) f ≡ true
unmark_keeps m sets first end low high f lo hi is_first is_end is below above some out marked =
    ap (λ h. h 0 (cell_of m f)) is ∙ and_from (has m.cells 0 (cell_of m f)) (not (between first (end - 1) (cell_of m f))) marked (outside (cases_Bool (between first (end - 1) (cell_of m f))))
  where
    outside : (between first (end - 1) (cell_of m f) ≡ true) ⊎ (between first (end - 1) (cell_of m f) ≡ false) → not (between first (end - 1) (cell_of m f)) ≡ true
    outside (inr off) = rw off
    outside (inl on) =
        let parts = and_parts (nat_le first (cell_of m f)) (nat_le (cell_of m f) (end - 1)) on in
        let over : first ≤ cell_of m f = leb-true _ _ parts.0 in
        let under : cell_of m f ≤ end - 1 = leb-true _ _ parts.1 in
        let later : low < f = elim (cases_lt low f) [ inl over_low ↦ over_low | inr not_low ↦ absurd (omega (arith, cell_mono m f low not_low, over, is_first)) ] in
        let earlier : f < high = elim (cases_lt f high) [ inl under_high ↦ under_high | inr not_high ↦ absurd (omega (arith, cell_mono m high f not_high, under, is_end, some)) ] in
        absurd (out (above_low lo low f below later, below_high hi high f above earlier))

-- while a carrier is marked run by run
pub record MarksOn (case : Case) (box : Box) (start now : Marks) (c from : ℕ) : Type 0 where
  pub small : (k : ℕ) → k < from → box c k ≡ true → freq_of case c k ≤ 10000000
  pub marked : (k : ℕ) → k < from → box c k ≡ true → is_marked now (freq_of case c k) ≡ true
  pub kept : (f : ℕ) → is_marked start f ≡ true → is_marked now f ≡ true

-- the frequencies of a carrier
pub record AreFreqs (case : Case) (freqs : List ℕ) (c : ℕ) : Type 0 where
  pub is : freqs ≡ (carrier_of case c).freqs
  pub rising : IsStrictlyIncreasing freqs
  pub small : AreFrequencies freqs

freq_at : (case : Case) (freqs : List ℕ) (c k : ℕ) → AreFreqs case freqs c → get_or freqs k 0 ≡ freq_of case c k
freq_at case freqs c k are = ap (λ fs. get_or fs k 0) are.is

pub known_at : (case : Case) (t : Trace) (sets : List (List Bool)) (freqs : List ℕ) (c k : ℕ) → t.counts ≡ counts_of case → has sets ≡ left t
    → AreFreqs case freqs c → flag (get_or sets c []) k ≡ true → k < length freqs
known_at case t sets freqs c k counts is are here =
    let low : k < count_of case c = sized_left case t counts c k (sym (ap (λ f. f c k) is) ∙ here) in
    let size : length freqs ≡ count_of case c = ap length are.is in
    omega arith

pub ordered_run : (case : Case) (t : Trace) (sets : List (List Bool)) (freqs : List ℕ) (c first last : ℕ) → t.counts ≡ counts_of case → has sets ≡ left t → AreFreqs case freqs c
    → IsRun (get_or sets c []) first last → get_or freqs first 0 ≤ get_or freqs last 0
ordered_run case t sets freqs c first last counts is are run =
    rising_le freqs are.rising first last run.ordered (known_at case t sets freqs c last counts is are (run.all last run.ordered (omega arith)))

pub marks_more : (case : Case) (t : Trace) (sets : List (List Bool)) (freqs : List ℕ) (start now next : Marks) (c from first last : ℕ)
    → t.counts ≡ counts_of case → has sets ≡ left t → AreFreqs case freqs c
    → IsNext (get_or sets c []) from first → IsRun (get_or sets c []) first last
    → ((f : ℕ) → get_or freqs first 0 ≤ f → f ≤ get_or freqs last 0 → is_marked next f ≡ true) → ((f : ℕ) → is_marked now f ≡ true → is_marked next f ≡ true)
    → MarksOn case (left t) start now c from → MarksOn case (left t) start next c (last + 1)
marks_more case t sets freqs start now next c from first last counts is are here run marks keeps so = record {
  small = λ k low on. subst (λ (f : ℕ). f ≤ 10000000) (freq_at case freqs c k are) (are.small k 0 (known k on));
  marked = λ k low on. elim (cases_lt k from) [
    | inl earlier ↦ keeps (freq_of case c k) (so.marked k earlier on)
    | inr later ↦ elim (cases_lt k first) [
      | inl between_runs ↦ absurd (true≢false (sym (there k on) ∙ here.least k later between_runs))
      | inr in_run ↦ subst (λ (f : ℕ). is_marked next f ≡ true) (freq_at case freqs c k are)
          (marks (get_or freqs k 0) (rising_le freqs are.rising first k in_run (known k on))
          (rising_le freqs are.rising k last (omega (arith, low)) (known_at case t sets freqs c last counts is are (run.all last run.ordered (omega arith)))))
    ]
  ];
  kept = λ f marked. keeps f (so.kept f marked);
}
  where
    there : (k : ℕ) → left t c k ≡ true → flag (get_or sets c []) k ≡ true
    there k on = ap (λ f. f c k) is ∙ on

    known : (k : ℕ) → left t c k ≡ true → k < length freqs
    known k on = known_at case t sets freqs c k counts is are (there k on)

-- the first so many carriers are marked
pub record MarkedUpTo (case : Case) (box : Box) (m : Marks) (n : ℕ) : Type 0 where
  pub each : (c : ℕ) → c < n → IsMarkedAt case box m c

marks_stay : {case : Case} {box : Box} {now next : Marks} {c : ℕ} → ((f : ℕ) → is_marked now f ≡ true → is_marked next f ≡ true) → IsMarkedAt case box now c → IsMarkedAt case box next c
marks_stay {case} {box} {now} {next} {c} keeps at = record { small = at.small; marked = λ k on. keeps (freq_of case c k) (at.marked k on) }

pub marked_more : {case : Case} {box : Box} {now next : Marks} {n : ℕ} → ((f : ℕ) → is_marked now f ≡ true → is_marked next f ≡ true) → IsMarkedAt case box next n
    → MarkedUpTo case box now n → MarkedUpTo case box next (n + 1)
marked_more {case} {box} {now} {next} {n} keeps here so = record {
  each = λ c low. elim (lt_cases c n (omega arith)) [
    | inl earlier ↦ marks_stay keeps (so.each c earlier)
    | inr last ↦ subst (λ (x : ℕ). IsMarkedAt case box next x) (sym last) here
  ];
}

-- marks are good for what is left later
pub marked_on : {case : Case} {a b : Trace} {m : Marks} → GoesOn case a b → AreMarked case (left a) m → AreMarked case (left b) m
marked_on {case} {a} {b} {m} on are = record {
  each = λ c low. record {
    small = λ k here. (are.each c low).small k (left_earlier on c k here);
    marked = λ k here. (are.each c low).marked k (left_earlier on c k here);
  };
}

-- what isn't marked isn't left
pub far_within : (case : Case) (box : Box) (m : Marks) (lo hi : ℤ) → AreMarked case box m → ((f : ℕ) → f ≤ 10000000 → IsIn lo hi f → is_marked m f ≡ false) → HasNoneWithin case box lo hi
far_within case box m lo hi are far = record {
  each = λ c low. record { none = λ k here inside. true≢false (sym ((are.each c low).marked k here) ∙ far (freq_of case c k) ((are.each c low).small k here) inside) };
}

pub within_at : {case : Case} {box : Box} {lo hi lo' hi' : ℤ} → lo' ≡ lo → hi' ≡ hi → HasNoneWithin case box lo' hi' → HasNoneWithin case box lo hi
within_at {case} {box} {lo} {hi} {lo'} {hi'} e f none = subst (λ (x : ℤ). HasNoneWithin case box x hi) e (subst (λ (x : ℤ). HasNoneWithin case box lo' x) f none)

-- marks between two frequencies may go where nothing is left between them
pub unmarked_within : (case : Case) (box : Box) (old new : Marks) (lo hi : ℤ) → AreMarked case box old → HasNoneWithin case box lo hi
    → ((f : ℕ) → f ≤ 10000000 → (IsIn lo hi f → ⊥) → is_marked old f ≡ true → is_marked new f ≡ true) → AreMarked case box new
unmarked_within case box old new lo hi are none keeps = record {
  each = λ c low. record {
    small = (are.each c low).small;
    marked = λ k here. keeps (freq_of case c k) ((are.each c low).small k here) ((none.each c low).none k here) ((are.each c low).marked k here);
  };
}

-- nothing of a carrier's is left from the first number on, or what is left begins above the second one
pub none_from : (case : Case) (t : Trace) (sets : List (List Bool)) (freqs : List ℕ) (c first low : ℕ) (lo hi : ℤ) → t.counts ≡ counts_of case → has sets ≡ left t → AreFreqs case freqs c
    → ((f : ℕ) → f ≤ 10000000 → (f < low) ↔ (pos f <ℤ lo)) → AreBelow freqs low first → HasNoneFrom (get_or sets c []) first → HasNoneOf case (left t) c lo hi
none_from case t sets freqs c first low lo hi counts is are from below none = record {
  none = λ k here inside.
      let known = known_at case t sets freqs c k counts is are (ap (λ f. f c k) is ∙ here) in
      let inside' : IsIn lo hi (get_or freqs k 0) = subst (IsIn lo hi) (sym (freq_at case freqs c k are)) inside in
      true≢false (sym (ap (λ f. f c k) is ∙ here) ∙ none.none k (from_first freqs low first k lo hi are.small from below known inside'));
}

pub none_next : (case : Case) (t : Trace) (sets : List (List Bool)) (freqs : List ℕ) (c first next low : ℕ) (lo hi : ℤ) → t.counts ≡ counts_of case → has sets ≡ left t → AreFreqs case freqs c
    → ((f : ℕ) → f ≤ 10000000 → (f < low) ↔ (pos f <ℤ lo)) → AreBelow freqs low first → IsNext (get_or sets c []) first next → hi <ℤ pos (get_or freqs next 0) → HasNoneOf case (left t) c lo hi
none_next case t sets freqs c first next low lo hi counts is are from below next_is beyond = record {
  none = λ k here inside.
      let there : flag (get_or sets c []) k ≡ true = ap (λ f. f c k) is ∙ here in
      let known = known_at case t sets freqs c k counts is are there in
      let inside' : IsIn lo hi (get_or freqs k 0) = subst (IsIn lo hi) (sym (freq_at case freqs c k are)) inside in
      let late : first ≤ k = from_first freqs low first k lo hi are.small from below known inside' in
      elim (cases_lt k next) [
        | inl earlier ↦ true≢false (sym there ∙ next_is.least k late earlier)
        | inr later ↦ let higher = rising_le freqs are.rising next k later known in absurd (omega (arith, ints, inside'.1, beyond, higher))
      ];
}

pub none_at_ends : {case : Case} {box : Box} {c : ℕ} {lo hi lo' hi' : ℤ} → lo' ≡ lo → hi' ≡ hi → HasNoneOf case box c lo' hi' → HasNoneOf case box c lo hi
none_at_ends {case} {box} {c} {lo} {hi} {lo'} {hi'} e f none = subst (λ (x : ℤ). HasNoneOf case box c x hi) e (subst (λ (x : ℤ). HasNoneOf case box c lo' x) f none)

-- the first so many carriers have nothing left there
pub record NoneUpTo (case : Case) (box : Box) (lo hi : ℤ) (n : ℕ) : Type 0 where
  pub each : (c : ℕ) → c < n → HasNoneOf case box c lo hi

pub none_more : {case : Case} {box : Box} {lo hi : ℤ} {n : ℕ} → NoneUpTo case box lo hi n → HasNoneOf case box n lo hi → NoneUpTo case box lo hi (n + 1)
none_more {case} {box} {lo} {hi} {n} so here = record {
  each = λ c low. elim (lt_cases c n (omega arith)) [
    | inl earlier ↦ so.each c earlier
    | inr last ↦ subst (λ (x : ℕ). HasNoneOf case box x lo hi) (sym last) here
  ];
}

-- what isn't left doesn't come back
pub none_on : {case : Case} {a b : Trace} {lo hi : ℤ} {n : ℕ} → GoesOn case a b → NoneUpTo case (left a) lo hi n → NoneUpTo case (left b) lo hi n
none_on {case} {a} {b} {lo} {hi} {n} on so = record { each = λ c low. record { none = λ k here. (so.each c low).none k (left_earlier on c k here) } }
