-- Edits, undo and redo keep what each show of a history keeps.
use Rattle.std.proofs.Common.{◌≡◌, List, [], ◌∷◌, true, Some, Result, Ok, Err, refl, IsTrue}
use Rattle.std.specs.List.{list_all}
use Rattle.std.proofs.lemmas.Bool.{and_parts}
use Rattle.rf_editor.specs.History.{History, accepted, edited_history, first_history, redone_to, undone_to}
use Rattle.rf_show.specs.After.{after, is_edit}
use Rattle.rf_show.specs.Raised.{is_textual}
use Rattle.rf_show.specs.Show.{ShowData}
use Rattle.rf_show.specs.declared.edit.Edit.{Edit}
use Rattle.rf_show.specs.declared.refusal.Refusal.{Refusal}
use Rattle.rf_text.specs.ShowLaw.{EditsStayTextual}
use Rattle.rf_session.specs.Textual.{AreTextual}

pub first_are : EditsStayTextual → AreTextual first_history
first_are law = record { earlier = refl; show = law.first; later = refl }

both : (s : ShowData) (ss : List ShowData) → is_textual s ≡ true → list_all is_textual ss ≡ true → list_all is_textual (s ∷ ss) ≡ true
both s ss h k = rw (h, k) refl

same : (old new : History) → AreTextual old → old ≡ new → AreTextual new
same old new h is = rw (← is) h

-- an edit that is accepted
pub edited_are : EditsStayTextual → (old new : History) (change : Edit) → IsTrue (is_edit change) → AreTextual old → edited_history old change ≡ Ok new → AreTextual new
edited_are law old new change given h is = go (after old.show change) refl is where
  go : (made : Result ShowData Refusal) → after old.show change ≡ made → accepted old made ≡ Ok new → AreTextual new
  go (Ok show) was here =
      let next : ◌≡◌ {A = History} (record { earlier = old.show ∷ old.earlier; show = show; later = [] }) new = cc in
      same _ new (record { earlier = both old.show old.earlier h.show h.earlier; show = law.next old.show show change h.show given was; later = refl }) next
  go (Err reason) was here = cc

-- a step back
pub undone_are : (old new : History) → AreTextual old → undone_to old old.earlier ≡ Some new → AreTextual new
undone_are old new h is = go old.earlier h.earlier is where
  go : (earlier : List ShowData) → list_all is_textual earlier ≡ true → undone_to old earlier ≡ Some new → AreTextual new
  go [] all here = cc
  go (s ∷ ss) all here =
      let next : ◌≡◌ {A = History} (record { earlier = ss; show = s; later = old.show ∷ old.later }) new = cc in
      let parts = and_parts (is_textual s) (list_all is_textual ss) all in
      same _ new (record { earlier = parts.1; show = parts.0; later = both old.show old.later h.show h.later }) next

-- a step forth
pub redone_are : (old new : History) → AreTextual old → redone_to old old.later ≡ Some new → AreTextual new
redone_are old new h is = go old.later h.later is where
  go : (later : List ShowData) → list_all is_textual later ≡ true → redone_to old later ≡ Some new → AreTextual new
  go [] all here = cc
  go (s ∷ ss) all here =
      let next : ◌≡◌ {A = History} (record { earlier = old.show ∷ old.earlier; show = s; later = ss }) new = cc in
      let parts = and_parts (is_textual s) (list_all is_textual ss) all in
      same _ new (record { earlier = both old.show old.earlier h.show h.earlier; show = parts.0; later = parts.1 }) next
