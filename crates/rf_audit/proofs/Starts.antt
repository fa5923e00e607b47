-- The rows of a table, the leaders among them, and what is left at the start.
use Rattle.std.proofs.Common.{◌≡◌, ◌∙◌, ◌<◌, ◌≤◌, ◌+◌, ℕ, zero, suc, List, [], ◌∷◌, ◌++◌, length, get_or, Bool, true, false, refl, sym, ap, subst, arith, inl, inr}
use Rattle.std.specs.Prelude.{Option, None, is_some, slice_index, slice_index_or}
use Rattle.std.proofs.lemmas.Bool.{cases_eq, cases_lt, true≢false}
use Rattle.std.proofs.lemmas.List.{get_or_push, get_or_past}
use Rattle.std.proofs.Math.ListN.{get_or-append}
use Rattle.rf_terms.specs.declared.kind.Kind.{Kind}
use Rattle.std.proofs.lemmas.Option.{none-some}
use Rattle.rf_base.proofs.ListLaws.{flag_low}
use Rattle.rf_audit.proofs.Sets.{one-more}
use Rattle.rf_terms.proofs.KindLaws.{two_roles}
use Rattle.rf_log.specs.Case.{Case, carrier_of, no_carrier, count_of, is_allowed, is_instance}
use Rattle.rf_audit.specs.declared.table.Row.{Row}
use Rattle.rf_audit.specs.Left.{in_sets, fixed_at, AreFixed, IsLeft}
use Rattle.rf_audit.specs.Tables.{AreAlike, IsLed, IsTableRow, asks_of}
use Rattle.rf_log.proofs.CaseLaws.{instance_full}

pick : (rows : List Row) (i : ℕ) → i < length rows → (row : Row) × (row ≡ get_or rows i row)
pick [] i low = absurd (omega arith)
pick (row ∷ rows) zero low = (row, refl)
pick (row ∷ rows) (suc i) low = pick rows i (omega arith)

pub led-more : (case : Case) (rows : List Row) (leaders : List ℕ) (n g : ℕ) → length leaders ≡ n → n < length rows → ((d : ℕ) → d < length rows → IsTableRow case rows d)
    → g ≤ n → (g < n → slice_index leaders g ≡ g) → ((one other : Row) → one ≡ slice_index_or rows g one → other ≡ slice_index_or rows n other → AreAlike one other)
    → ((d : ℕ) → d < n → IsLed case leaders d) → (d : ℕ) → d < n + 1 → IsLed case (leaders ++ g ∷ []) d
led-more case rows leaders n g full low rows_are low_g itself alike before =
    let e : slice_index (leaders ++ g ∷ []) n ≡ g = get_or_push leaders g 0 n full in
    let kept : (d : ℕ) → d < n → slice_index (leaders ++ g ∷ []) d ≡ slice_index leaders d = λ d below. get_or-append leaders (g ∷ []) 0 d (omega (arith, full, below)) in
    let one = pick rows g (omega (arith, low, low_g)) in
    let other = pick rows n low in
    let one_row = rows_are g (omega (arith, low, low_g)) one.0 one.1 in
    let other_row = rows_are n low other.0 other.1 in
    let same = alike one.0 other.0 one.1 other.1 in
    one-more (λ d. IsLed case (leaders ++ g ∷ []) d) n (λ d below. let led = before d below in record {
      low = subst (λ (x : ℕ). x ≤ d) (sym (kept d below)) led.low;
      itself = ap (λ (x : ℕ). slice_index (leaders ++ g ∷ []) x) (kept d below) ∙ kept (slice_index leaders d) (omega (arith, below, led.low)) ∙ led.itself ∙ sym (kept d below);
      freqs = ap (λ (x : ℕ). (carrier_of case x).freqs) (kept d below) ∙ led.freqs;
      asks = ap (asks_of case) (kept d below) ∙ led.asks;
    }) (record {
      low = subst (λ (x : ℕ). x ≤ n) (sym e) low_g;
      itself = ap (λ (x : ℕ). slice_index (leaders ++ g ∷ []) x) e ∙ one-more (λ x. x ≡ g → slice_index (leaders ++ g ∷ []) x ≡ g) n
          (λ x below is. kept x below ∙ ap (λ (y : ℕ). slice_index leaders y) is ∙ itself (omega (arith, below, is))) (λ _. e) g (omega (arith, low_g)) refl ∙ sym e;
      freqs = ap (λ (x : ℕ). (carrier_of case x).freqs) e ∙ sym one_row.channels ∙ same.0 ∙ other_row.channels;
      asks = ap (asks_of case) e ∙ sym one_row.margins ∙ same.1 ∙ other_row.margins;
    })

pub free-more : (fixed : List (Option ℕ)) → ((c : ℕ) → fixed_at fixed c ≡ None) → (c : ℕ) → fixed_at (fixed ++ None ∷ []) c ≡ None
free-more [] free zero = refl
free-more [] free (suc c) = refl
free-more (o ∷ fixed) free zero = free zero
free-more (o ∷ fixed) free (suc c) = free-more fixed (λ d. free (suc d)) c

none-past : (case : Case) (c : ℕ) → length case.carriers ≤ c → count_of case c ≡ 0
none-past case c past = ap (λ carrier. length carrier.freqs) (get_or_past case.carriers c no_carrier past)

pub starts : (case : Case) (fixed : List (Option ℕ)) (sets : List (List Bool)) → length sets ≡ length case.carriers → length fixed ≡ length case.carriers
    → ((c : ℕ) → fixed_at fixed c ≡ None) → ((c : ℕ) → c < length case.carriers → length (slice_index_or sets c []) ≡ count_of case c)
    → ((c k : ℕ) → c < length case.carriers → k < count_of case c → in_sets sets c k ≡ is_allowed case c k) → IsLeft case [] fixed sets
starts case fixed sets full fixed_full free sizes allowed = record {
  sized = record { full = full; sizes = all_sizes };
  known = record { full = fixed_full; known = λ c k is. absurd (none-some k (sym (free c) ∙ is)) };
  under = record {
    within = λ c k here.
        let known : k < count_of case c = let low = flag_low (slice_index_or sets c []) k here in omega (arith, low, all_sizes c) in
        (record { known = known; met = λ cond has_cond of. absurd (omega (arith, has_cond.1)) }, sym (allowed c k (low_c c k known) known) ∙ here);
    covers = (0, λ living c k here. allowed c k (low_c c k here.0.known) here.0.known ∙ here.1);
    held = λ c k j is here. absurd (none-some k (sym (free c) ∙ is));
  };
  cleared = λ kind roles place among low fix made k here. absurd (no-fixed kind roles place low fix made);
}
  where
    low_c : (c k : ℕ) → k < count_of case c → c < length case.carriers
    low_c c k known = elim (cases_lt c (length case.carriers)) [
      | inl low ↦ low
      | inr past ↦ let e = none-past case c past in absurd (omega (arith, e, known))
    ]

    all_sizes : (c : ℕ) → length (slice_index_or sets c []) ≡ count_of case c
    all_sizes c = elim (cases_lt c (length case.carriers)) [
      | inl low ↦ sizes c low
      | inr past ↦ ap length (get_or_past sets c [] (omega (arith, full, past))) ∙ sym (none-past case c past)
    ]

    no-fixed : (kind : Kind) (roles : List ℕ) (place : ℕ) → place < length roles → AreFixed fixed roles place → is_instance case kind roles ≡ true → ⊥
    no-fixed kind roles place low fix made = elim (cases_eq place 0) [
      | inl first ↦ true≢false (sym (fix 1 (omega (arith, instance_full case kind roles made, two_roles kind)) (λ is. omega (arith, first, is))) ∙ ap is_some (free (slice_index roles 1)))
      | inr later ↦ true≢false (sym (fix 0 (omega (arith, low)) (λ same. later (sym same))) ∙ ap is_some (free (slice_index roles 0)))
    ]
