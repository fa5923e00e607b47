-- How a broken instance is reported.
use Rattle.std.specs.Prelude.{ℕ, ℤ, Option, List, ◌++◌, ◌-◌, length, take, replicate, slice_index_or}
use Rattle.rf_terms.specs.Forms.{value_of}
use Rattle.rf_terms.specs.declared.kind.Kind.{Kind}
use Rattle.rf_terms.specs.declared.kind.Kind.TheVariants.{Spacing}
use Rattle.rf_show.specs.Show.{ShowData}
use Rattle.rf_show.specs.Query.{margin_of}
use Rattle.rf_rules.specs.declared.conflict.Conflict.{Conflict}
use Rattle.rf_rules.specs.declared.conflict.Conflict.TheVariants.{Product, Spacing as OfSpacing}
use Rattle.rf_rules.specs.Instances.{distance_of, khzs_in}

-- the carriers of all roles but the last
abbrev pub sources_of : List ℕ → List ℕ
sources_of t = take (length t - 1) t

-- three places, of which those that are left hold 0
abbrev pub padded : List ℕ → List ℕ
padded t = t ++ replicate (3 - length t) 0

-- the product of sources: the form without its last role
abbrev pub product_of : List (Option ℕ) → Kind → List ℕ → ℤ
product_of ats kind sources = value_of kind (khzs_in ats sources)

-- an instance with its product, its distance and its margin
abbrev pub conflict_as : Kind → List ℕ → ℤ → ℕ → ℕ → Conflict
conflict_as Spacing t product distance needs = OfSpacing (slice_index_or t 0 0) (slice_index_or t 1 0) distance needs
conflict_as kind t product distance needs =
    Product kind (padded (sources_of t)) (slice_index_or t (length t - 1) 0) product distance needs

unfoldable pub conflict_of : ShowData → List (Option ℕ) → Kind → List ℕ → Conflict
conflict_of show ats kind t =
    conflict_as kind t (product_of ats kind (sources_of t)) (distance_of ats kind t) (margin_of show kind t)
