-- How the separator of a scan file is named.
use Rattle.std.specs.Prelude.{ℕ, List, [], ◌∷◌, Option, codes, find}
use Rattle.std.specs.Str.{bytes_eq}
use Rattle.rf_exclusions.specs.declared.scan_set.Sep.{Sep}
use Rattle.rf_exclusions.specs.declared.scan_set.Sep.TheVariants.{Comma, Semicolon, Tab}

abbrev pub sep_text : Sep → List ℕ
sep_text Comma = codes "comma"
sep_text Semicolon = codes "semicolon"
sep_text Tab = codes "tab"

-- the separator that a word names
unfoldable pub sep_of : List ℕ → Option Sep
sep_of word = find (λ sep. bytes_eq word (sep_text sep)) (Comma ∷ Semicolon ∷ Tab ∷ [])
