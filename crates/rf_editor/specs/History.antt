use Rattle.std.specs.Prelude.{List, [], ◌∷◌, Option, Some, None, Result, Ok, Err}
use Rattle.rf_show.specs.Show.{ShowData, first_show}
use Rattle.rf_show.specs.After.{after}
use Rattle.rf_show.specs.declared.edit.Edit.{Edit}
use Rattle.rf_show.specs.declared.refusal.Refusal.{Refusal}

-- the earlier shows and the later ones, the nearest first, and the show between them
pub record History : Type 0 where
  pub earlier : List ShowData
  pub show : ShowData
  pub later : List ShowData

-- the first show, without earlier and later ones
abbrev pub first_history : History
first_history = record { earlier = []; show = first_show; later = [] }

-- an accepted edit keeps the show as an earlier one and forgets the later ones
abbrev pub accepted : History → Result ShowData Refusal → Result History Refusal
accepted h (Ok show) = Ok (record { earlier = h.show ∷ h.earlier; show = show; later = [] })
accepted h (Err reason) = Err reason

abbrev pub edited_history : History → Edit → Result History Refusal
edited_history h edit = accepted h (after h.show edit)

-- the nearest earlier show again, where there is one
abbrev pub undone_to : History → List ShowData → Option History
undone_to h [] = None
undone_to h (s ∷ ss) = Some (record { earlier = ss; show = s; later = h.show ∷ h.later })

abbrev pub undone : History → Option History
undone h = undone_to h h.earlier

-- the nearest later show again
abbrev pub redone_to : History → List ShowData → Option History
redone_to h [] = None
redone_to h (s ∷ ss) = Some (record { earlier = h.show ∷ h.earlier; show = s; later = ss })

abbrev pub redone : History → Option History
redone h = redone_to h h.later
