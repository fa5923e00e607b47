-- The reply to `csv`.
use Rattle.std.specs.Prelude.{◌≡◌, ℕ, false, List, [], ◌∷◌, ◌++◌, ◌+◌, nat_lt, length, slice_index, Some, Vec, codes, decimal, if◌then◌else◌}
use Rattle.std.specs.declared.alloc.Global.{Global}
use Rattle.std.specs.Fmt.{signed_decimal}
use Rattle.std.specs.List.{flat_map}
use Rattle.csv.specs.Writing.{default_writer, fields_written, has_written, row_text, text_written, writer_setup}
use Rattle.csv.specs.declared.writer.Writer.{Writer}
use Rattle.rf_terms.specs.declared.kind.Kind.{Kind}
use Rattle.rf_terms.specs.Kinds.{roles_of, text_of}
use Rattle.rf_show.specs.declared.carrier.Carrier.{Carrier}
use Rattle.rf_rules.specs.declared.conflict.Conflict.{Conflict}
use Rattle.rf_rules.specs.declared.conflict.Conflict.TheVariants as conflict
use Rattle.rf_rules.specs.declared.analysis.Analysis.{Analysis}
use Rattle.rf_base.specs.Lines.{line_of}
use Rattle.rf_report.specs.Names.{name_at}

abbrev pub columns : List (List ℕ)
columns = codes "kind" ∷ codes "source1" ∷ codes "source2" ∷ codes "source3" ∷ codes "victim" ∷ codes "product" ∷ codes "distance" ∷ codes "needs" ∷ []

-- the name of a source; empty where the kind has fewer
abbrev pub source_field : List Carrier → Kind → List ℕ → ℕ → List ℕ
source_field carriers kind sources place =
    if nat_lt (place + 1) (roles_of kind) then name_at carriers (slice_index sources place) else []

-- the fields of a conflict, empty where it has none
abbrev pub conflict_fields : List Carrier → Conflict → List (List ℕ)
conflict_fields carriers (conflict.OffGrid carrier) = codes "off-grid" ∷ [] ∷ [] ∷ [] ∷ name_at carriers carrier ∷ [] ∷ [] ∷ [] ∷ []
conflict_fields carriers (conflict.Banned carrier) = codes "banned" ∷ [] ∷ [] ∷ [] ∷ name_at carriers carrier ∷ [] ∷ [] ∷ [] ∷ []
conflict_fields carriers (conflict.Spacing a b distance needs) =
    codes "spacing" ∷ name_at carriers a ∷ name_at carriers b ∷ [] ∷ [] ∷ [] ∷ decimal distance ∷ decimal needs ∷ []
conflict_fields carriers (conflict.Product kind sources victim product distance needs) =
    text_of kind ∷ source_field carriers kind sources 0 ∷ source_field carriers kind sources 1 ∷ source_field carriers kind sources 2
    ∷ name_at carriers victim ∷ signed_decimal product ∷ decimal distance ∷ decimal needs ∷ []

-- the text of a row, with its line feed
unfoldable pub row_of : List (List ℕ) → List ℕ
row_of fields = row_text default_writer fields

-- the reply to `csv`
abbrev pub csv_text_of : List Carrier → Analysis → List ℕ
csv_text_of carriers analysis =
    line_of (codes "csv" ∷ decimal (length analysis.shown) ∷ [])
    ++ (row_of columns ++ flat_map (λ conflict. row_of (conflict_fields carriers conflict)) analysis.shown)

-- A writer of rows that stands between two rows, after this text.
pub record Holds (writer : Writer (Vec ℕ Global)) (bytes : List ℕ) : Type 0 where
  pub setup : writer_setup writer ≡ default_writer
  pub fields : fields_written writer ≡ 0
  pub shown : has_written writer ≡ false
  pub text : text_written (λ v. Some v.items) writer ≡ Some bytes

-- A writer stands after one piece more.
abbrev pub Gains : Writer (Vec ℕ Global) → Writer (Vec ℕ Global) → List ℕ → Type 0
Gains old new piece = (text : List ℕ) → Holds old text → Holds new (text ++ piece)
