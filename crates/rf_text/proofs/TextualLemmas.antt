-- Edits of lines and files leave only widths that a text may give.
use Rattle.std.proofs.Common.{◌≡◌, ◌≤◌, ◌++◌, ◌∙◌, ℕ, zero, suc, List, [], ◌∷◌, true, drop, arith, refl, ap, sym, inl, inr, Some, None, Ok, slice_index, IfSome}
use Rattle.std.specs.declared.option.Option.{Option}
use Rattle.std.specs.List.{list_all}
use Rattle.std.proofs.lemmas.Bool.{and_parts, cases_Bool}
use Rattle.std.proofs.lemmas.List.Folds.{list_all-append}
use Rattle.rf_profiles.specs.Channels.{channels_of}
use Rattle.rf_profiles.specs.Profile.{differ, is_width, profile_names, profile_of, profile_with}
use Rattle.rf_profiles.specs.Range.{Span, range_of, span}
use Rattle.rf_profiles.specs.declared.profile.Profile.{Profile}
use Rattle.rf_show.specs.declared.edit.Edit.{Edit}
use Rattle.rf_show.specs.declared.edit.Edit.TheVariants as edit
use Rattle.rf_show.specs.declared.refusal.Refusal.{Refusal}
use Rattle.rf_show.specs.After.{after_unless, edited, is_edit, refusal, with_some}
use Rattle.rf_show.specs.Raised.{is_textual}
use Rattle.rf_show.specs.Show.{ShowData, is_profile}
use Rattle.rf_show.proofs.FirstLaws.{list_all-change_first, list_all-remove_first}
use Rattle.rf_text.specs.ShowLaw.{EditsStayTextual}
use Rattle.rf_text.proofs.PartsMade.{is_worded}
use Rattle.rf_base.proofs.OptionLaws.{if_any}

-- ---- a profile of numbers

width_at : (ns : List ℕ) (from k : ℕ) → list_all is_width (drop from ns) ≡ true → from ≤ k → is_width (slice_index ns k) ≡ true
width_at [] from k h low = refl
width_at (n ∷ ns) zero zero h low = (and_parts (is_width n) (list_all is_width ns) h).0
width_at (n ∷ ns) zero (suc k) h low = width_at ns zero k (and_parts (is_width n) (list_all is_width ns) h).1 (omega arith)
width_at (n ∷ ns) (suc from) zero h low = absurd (omega arith)
width_at (n ∷ ns) (suc from) (suc k) h low = width_at ns from k h (omega arith)

worded_with : (name ns : List ℕ) (ranges : List Span) → list_all is_width (drop 3 ns) ≡ true → is_worded (profile_with name ns ranges) ≡ true
worded_with name ns ranges h =
    let at = width_at ns 3 in
    rw (at 3 h (omega arith), at 4 h (omega arith), at 5 h (omega arith), at 6 h (omega arith), at 7 h (omega arith), at 8 h (omega arith), at 9 h (omega arith)) refl

abbrev IsWorded : Option Profile → Type 0
IsWorded made = IfSome made (λ p. is_worded p ≡ true)

profile_worded : (name ns : List ℕ) → IsWorded (profile_of name ns)
profile_worded name ns = elim (cases_Bool (list_all is_width (drop 3 ns))) [
  | inl h ↦ rw h (if_any _ (λ p. is_worded p ≡ true) (range_of (slice_index ns 0) (slice_index ns 1) (slice_index ns 2))
      (λ range. if_any _ (λ p. is_worded p ≡ true) (channels_of range) (λ channels. worded_with name ns channels h)))
  | inr h ↦ rw h tt
]

-- ---- all profiles

with_worded : (ps : List Profile) (o : Option Profile) → list_all is_worded ps ≡ true → IsWorded o → list_all is_worded (with_some ps o) ≡ true
with_worded ps None h k = h
with_worded ps (Some p) h k = rw (list_all-append is_worded ps (p ∷ []), h, k) refl

edited_textual : (show : ShowData) (change : Edit) → is_textual show ≡ true → is_edit change ≡ true → is_textual (edited show change) ≡ true
edited_textual show (edit.AddProfile name numbers) h given = with_worded show.profiles (profile_of name numbers) h (profile_worded name numbers)
edited_textual show (edit.AddProfiles list) h given =
    let p = and_parts (list_all is_worded list) (differ (profile_names list)) given in
    rw (list_all-append is_worded show.profiles list, h, p.0) refl
edited_textual show (edit.AddRange name from to step) h given =
    list_all-change_first is_worded (is_profile name) (λ p. record p { channels = p.channels ++ span from to step ∷ [] }) show.profiles (λ p. refl) ∙ h
edited_textual show (edit.DropProfile name) h given = list_all-remove_first is_worded (is_profile name) show.profiles h
edited_textual show _ h given = h

-- what is accepted is what the edit makes
accepted : (o : Option Refusal) (show next : ShowData) → after_unless o show ≡ Ok next → is_textual show ≡ true → is_textual next ≡ true
accepted None show next h textual = let same : show ≡ next = cc in ap is_textual (sym same) ∙ textual
accepted (Some reason) show next h textual = cc

pub edits_stay : EditsStayTextual
edits_stay = record {
  first = refl;
  next = λ show next change textual given is. accepted (refusal show change) (edited show change) next is (edited_textual show change textual given);
}
