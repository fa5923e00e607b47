-- The replies that list what was found in a show.
use Rattle.std.specs.Prelude.{ℕ, ℤ, List, [], ◌∷◌, ◌++◌, codes, decimal}
use Rattle.std.specs.Fmt.{signed_decimal}
use Rattle.std.specs.List.{flat_map}
use Rattle.rf_terms.specs.Kinds.{text_of}
use Rattle.rf_show.specs.declared.carrier.Carrier.{Carrier}
use Rattle.rf_rules.specs.declared.conflict.Conflict.{Conflict}
use Rattle.rf_rules.specs.declared.conflict.Conflict.TheVariants as conflict
use Rattle.rf_rules.specs.declared.product.Product.{Product}
use Rattle.rf_rules.specs.declared.product.Products.{Products}
use Rattle.rf_rules.specs.declared.analysis.Analysis.{Analysis}
use Rattle.rf_base.specs.Lines.{line_of}
use Rattle.rf_report.specs.Names.{name_at, source_names}

-- the words after a product and its sources
abbrev pub hit_words : List ℕ → ℤ → ℕ → ℕ → List (List ℕ)
hit_words victim product distance needs =
    codes "hits" ∷ victim ∷ codes "at" ∷ signed_decimal product ∷ codes "distance" ∷ decimal distance ∷ codes "needs" ∷ decimal needs ∷ []

-- the words of a conflict
abbrev pub conflict_words : List Carrier → Conflict → List (List ℕ)
conflict_words carriers (conflict.OffGrid carrier) = codes "off-grid" ∷ name_at carriers carrier ∷ []
conflict_words carriers (conflict.Banned carrier) = codes "banned" ∷ name_at carriers carrier ∷ []
conflict_words carriers (conflict.Spacing a b distance needs) =
    codes "spacing" ∷ name_at carriers a ∷ name_at carriers b ∷ codes "distance" ∷ decimal distance ∷ codes "needs" ∷ decimal needs ∷ []
conflict_words carriers (conflict.Product kind sources victim product distance needs) =
    text_of kind ∷ (source_names carriers kind sources ++ hit_words (name_at carriers victim) product distance needs)

unfoldable pub conflict_line : List Carrier → Conflict → List ℕ
conflict_line carriers conflict = line_of (conflict_words carriers conflict)

-- the reply to `report`
abbrev pub report_text_of : List Carrier → Analysis → List ℕ
report_text_of carriers analysis =
    flat_map (conflict_line carriers) analysis.shown ++ line_of (codes "conflicts" ∷ decimal analysis.total ∷ [])

unfoldable pub product_line : List Carrier → Product → List ℕ
product_line carriers product =
    line_of (codes "product" ∷ signed_decimal product.value ∷ text_of product.kind ∷ source_names carriers product.kind product.sources)

-- the reply to `products`
abbrev pub products_text_of : List Carrier → Products → List ℕ
products_text_of carriers products =
    flat_map (product_line carriers) products.shown ++ line_of (codes "products" ∷ decimal products.total ∷ [])
