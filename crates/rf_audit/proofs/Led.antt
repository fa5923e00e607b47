-- The window of a leader is that of each carrier that it leads.
use Rattle.std.proofs.Common.{◌≡◌, ◌∙◌, ◌<◌, ◌≤◌, ℕ, ℤ, pos, ◌+ℤ◌, ◌*ℤ◌, unsigned_abs, List, length, get_or, set, take, sym, ap, arith, to_z, of_z, w64}
use Rattle.std.specs.Prelude.{max, slice_index, slice_index_or}
use Rattle.std.proofs.lemmas.List.{get_or-map, get_or-set_same, get_or-set_other, get_or-take}
use Rattle.rf_terms.specs.declared.kind.Kind.{Kind}
use Rattle.rf_terms.specs.declared.kind.Kind.TheVariants.{Spacing, T3Two, T3Three, T5Two, T5ThreeA, T5ThreeB, T7Two}
use Rattle.rf_terms.specs.Kinds.{kinds, roles_of, coefficients_of}
use Rattle.rf_terms.proofs.FormLaws.{told}
use Rattle.rf_terms.proofs.KindLaws.{kind_listed, four_roles}
use Rattle.rf_log.specs.Case.{Case, carrier_of, freq_of, asked_by, margin_of}
use Rattle.rf_audit.specs.Left.{IsTargetWindow}
use Rattle.rf_audit.specs.Tables.{IsTable, IsWindow, asks_of}
use Rattle.rf_audit.specs.declared.table.Row.{Row}
use Rattle.rf_audit.proofs.Sets.{at-set}

asks-same : (case : Case) (kind : Kind) (g c : ℕ) → asks_of case g ≡ asks_of case c → asked_by case kind g ≡ asked_by case kind c
asks-same case kind g c same =
    let has_kind = kind_listed kind in
    let at = λ (d : ℕ). get_or-map (λ kind. asked_by case kind d) kinds has_kind.0 kind 0 has_kind.1 ∙ ap (λ (k : Kind). asked_by case k d) has_kind.2 in
    sym (at g) ∙ ap (λ (xs : List ℕ). get_or xs has_kind.0 0) same ∙ at c

module _ (case : Case) (place g c : ℕ) (chosen : List ℕ) (low : place < length chosen) (same : asks_of case g ≡ asks_of case c) where
  asked-at : (kind : Kind) (n j : ℕ) → j < n → asked_by case kind (slice_index (take n (set chosen place c)) j) ≡ asked_by case kind (slice_index (take n (set chosen place g)) j)
  asked-at kind n j low_j =
      ap (asked_by case kind) (get_or-take n (set chosen place c) j 0 low_j)
      ∙ at-set (λ i x. asked_by case kind x ≡ asked_by case kind (get_or (set chosen place g) i 0)) chosen place c 0 low
      (sym (asks-same case kind g c same) ∙ sym (ap (asked_by case kind) (get_or-set_same chosen place g 0 low)))
      (λ i other. ap (asked_by case kind) (sym (get_or-set_other chosen place i g 0 other))) j
      ∙ sym (ap (asked_by case kind) (get_or-take n (set chosen place g) j 0 low_j))

  margin-led : (kind : Kind) → margin_of case kind (take (roles_of kind) (set chosen place c)) ≡ margin_of case kind (take (roles_of kind) (set chosen place g))
  margin-led Spacing =
      ap (λ (n : ℕ). max n (asked_by case Spacing (slice_index (take 2 (set chosen place c)) 1))) (asked-at Spacing 2 0 (omega arith))
      ∙ ap (λ (n : ℕ). max (asked_by case Spacing (slice_index (take 2 (set chosen place g)) 0)) n) (asked-at Spacing 2 1 (omega arith))
  margin-led T3Two = asked-at T3Two 3 2 (omega arith)
  margin-led T3Three = asked-at T3Three 4 3 (omega arith)
  margin-led T5Two = asked-at T5Two 3 2 (omega arith)
  margin-led T5ThreeA = asked-at T5ThreeA 4 3 (omega arith)
  margin-led T5ThreeB = asked-at T5ThreeB 4 3 (omega arith)
  margin-led T7Two = asked-at T7Two 3 2 (omega arith)

pub led-window : (case : Case) (kind : Kind) (place : ℕ) (chosen leaders : List ℕ) (rows : List Row) (row : Row) (freqs : List ℕ) (multiple rest : ℤ) (margin g c n : ℕ) (window : ℕ × ℕ)
    → IsTable case rows leaders → length chosen ≡ 4 → place < roles_of kind → g < length leaders → c < length leaders → slice_index leaders c ≡ g
    → row ≡ slice_index_or rows g row → freqs ≡ row.freqs.items → multiple ≡ slice_index_or (coefficients_of kind) place (pos 0) → unsigned_abs multiple ≤ 8
    → n ≡ roles_of kind → margin ≡ margin_of case kind (take n (set chosen place g))
    → IsWindow freqs (to_z w64 (of_z w64 multiple)) rest margin window → IsTargetWindow case kind place chosen rest c window
led-window case kind place chosen leaders rows row freqs multiple rest margin g c n window table four low low_g low_c is row_is freqs_are multiple_is few count margin_is in_window k known =
    let led = table.led c (let e = table.all_led in omega (arith, low_c, e)) in
    let own = table.row g (let e = table.all_led in omega (arith, low_g, e)) row row_is in
    let freqs_c : freqs ≡ (carrier_of case c).freqs = freqs_are ∙ own.channels ∙ ap (λ (d : ℕ). (carrier_of case d).freqs) (sym is) ∙ led.freqs in
    let both = in_window k (let e = ap length freqs_c in omega (arith, e, known)) in
    let value = ap (λ (fs : List ℕ). unsigned_abs (rest +ℤ (to_z w64 (of_z w64 multiple) *ℤ pos (slice_index fs k)))) freqs_c
    ∙ ap (λ (m : ℤ). unsigned_abs (rest +ℤ (m *ℤ pos (freq_of case c k)))) (told multiple (omega (arith, few)) ∙ multiple_is) in
    let margins = margin_is ∙ ap (λ (m : ℕ). margin_of case kind (take m (set chosen place g))) count
    ∙ sym (margin-led case place g c chosen (omega (arith, low, four, four_roles kind)) (ap (asks_of case) (sym is) ∙ led.asks) kind) in
    (λ near. both.0 (omega (arith, value, margins, near)), λ inside. let near = both.1 inside in omega (arith, value, margins, near))
