use Rattle.std.specs.Prelude.{List, [], ◌∷◌, IsSomeAnd, reverse}
use Rattle.std.specs.Option.{option_map_or}
use Rattle.rf_show.specs.declared.undo.Undo.{Undo}
use Rattle.rf_show.specs.Show.{ShowData}
use Rattle.rf_show.specs.Taken.{taken}

-- the shows to which undo values lead, one after the other
abbrev pub trail : List Undo → ShowData → List ShowData
trail [] show = []
trail (undo ∷ undos) show = option_map_or (λ s. s ∷ trail undos s) (taken show undo) []

-- each of them leads somewhere
abbrev pub AllLead : List Undo → ShowData → Type 0
AllLead [] show = Unit {0}
AllLead (undo ∷ undos) show = IsSomeAnd (taken show undo) (λ s. AllLead undos s)

-- the same of a stack, whose last value is the next
abbrev pub stack_trail : List Undo → ShowData → List ShowData
stack_trail undos show = trail (reverse undos) show

abbrev pub StackLeads : List Undo → ShowData → Type 0
StackLeads undos show = AllLead (reverse undos) show
