-- How an edit is written.
use Rattle.std.specs.Prelude.{ℕ, List, [], ◌∷◌, ◌==◌, Option, None, Some, map, slice_index, take, codes, decimal, if◌then◌else◌}
use Rattle.rf_show.specs.declared.edit.Edit.{Edit}
use Rattle.rf_show.specs.declared.edit.Edit.TheVariants as edit
use Rattle.rf_base.specs.Lines.{joined}
use Rattle.rf_text.specs.Operands.{fewest_numbers}

-- the word of a value, where there is one
abbrev pub if_there : {A : Type 0} → (A → List ℕ) → Option A → List (List ℕ)
if_there word None = []
if_there word (Some value) = word value ∷ []

-- the word of a zone, where one is named
abbrev pub zone_words : Option (List ℕ) → List (List ℕ)
zone_words zone = if_there (λ name. name) zone

-- the words of a profile's numbers: the last is left out where it is 0
abbrev pub number_words : List ℕ → List (List ℕ)
number_words numbers = map decimal (if slice_index numbers fewest_numbers == 0 then take fewest_numbers numbers else numbers)

-- the words of an edit; none where no line has it
abbrev pub edit_words : Edit → List (List ℕ)
edit_words (edit.AddProfile name numbers) = codes "profile" ∷ name ∷ number_words numbers
edit_words (edit.AddProfiles list) = []
edit_words (edit.AddRange name from to step) = codes "range" ∷ name ∷ decimal from ∷ decimal to ∷ decimal step ∷ []
edit_words (edit.DropProfile name) = codes "drop-profile" ∷ name ∷ []
edit_words (edit.AddZone name) = codes "zone" ∷ name ∷ []
edit_words (edit.Couple a b) = codes "couple" ∷ a ∷ b ∷ []
edit_words (edit.Uncouple a b) = codes "uncouple" ∷ a ∷ b ∷ []
edit_words (edit.Far a b) = codes "far" ∷ a ∷ b ∷ []
edit_words (edit.AddCarrier name profile zone) = codes "carrier" ∷ name ∷ profile ∷ zone ∷ []
edit_words (edit.Remove name) = codes "remove" ∷ name ∷ []
edit_words (edit.AddTime name from to) = codes "time" ∷ name ∷ decimal from ∷ decimal to ∷ []
edit_words (edit.Always name) = codes "always" ∷ name ∷ []
edit_words (edit.SetAt name khz) = codes "set" ∷ name ∷ decimal khz ∷ []
edit_words (edit.Clear name) = codes "clear" ∷ name ∷ []
edit_words (edit.Lock name) = codes "lock" ∷ name ∷ []
edit_words (edit.Unlock name) = codes "unlock" ∷ name ∷ []
edit_words (edit.AddBan lo hi zone) = codes "ban" ∷ decimal lo ∷ decimal hi ∷ zone_words zone
edit_words (edit.Unban number) = codes "unban" ∷ decimal number ∷ []
edit_words (edit.AddScan _ _ _ _ _ _) = []
edit_words (edit.Unscan number) = codes "unscan" ∷ decimal number ∷ []
edit_words (edit.Place at) = []

-- the line of an edit, without its line feed
unfoldable pub edit_text : Edit → List ℕ
edit_text edit = joined (edit_words edit)
