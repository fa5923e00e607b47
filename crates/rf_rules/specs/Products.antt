-- The intermodulation products of a show.
use Rattle.std.specs.Prelude.{ℕ, ℤ, pos, negsuc, Bool, false, ◌+◌, ◌-◌, ◌&&◌, ◌==◌, nat_le, unsigned_abs, Option, List, [], length, map, filter, if◌then◌else◌}
use Rattle.std.specs.List.{flat_map}
use Rattle.rf_terms.specs.Kinds.{has_victim, kinds, roles_of}
use Rattle.rf_terms.specs.declared.kind.Kind.{Kind}
use Rattle.rf_show.specs.Show.{ShowData}
use Rattle.rf_rules.specs.Tuples.{found_in, tuples, upto}
use Rattle.rf_rules.specs.Instances.{ats_of, is_candidate}
use Rattle.rf_rules.specs.Conflicts.{padded, product_of}
use Rattle.rf_rules.specs.Tallies.{shown_of}
use Rattle.rf_rules.specs.declared.product.Product.{Product}
use Rattle.rf_rules.specs.declared.product.Products.{Products}
use Rattle.rf_rules.specs.declared.search.Search.{Search}

-- the product of these sources
abbrev pub product_at : List (Option ℕ) → Kind → List ℕ → Product
product_at ats kind t = record { value = product_of ats kind t; kind = kind; sources = padded t }

-- the products of a kind over assigned sources that are distinct, in the order of the roles and together as in an instance
-- with a victim; by the first source, then by the second, and so on
abbrev pub products_of : ShowData → List (Option ℕ) → Kind → List Product
products_of show ats kind =
    map (product_at ats kind) (filter (is_candidate show ats kind) (tuples (roles_of kind - 1) (upto (length ats))))

-- the products of all kinds that have a victim
abbrev pub all_products : ShowData → List Product
all_products show = flat_map (products_of show (ats_of show)) (filter has_victim kinds)

-- a value is this many kilohertz
abbrev pub is_value : ℕ → ℤ → Bool
is_value v (pos n) = n == v
is_value v (negsuc n) = false

abbrev pub has_value : ℕ → Product → Bool
has_value v p = is_value v p.value

-- the numbers from lo to hi
abbrev pub between : ℕ → ℕ → List ℕ
between lo hi = map (λ i. lo + i) (upto (hi + 1 - lo))

-- the products from lo to hi: for each value, those that have it, by kind and then by sources
abbrev pub products : ShowData → ℕ → ℕ → List Product
products show lo hi = flat_map (λ v. filter (has_value v) (all_products show)) (between lo hi)

-- what is shown of them
abbrev pub listed : ShowData → ℕ → ℕ → Products
listed show lo hi = record { shown = shown_of (products show lo hi); total = length (products show lo hi) }

-- ---- how they are found

abbrev pub is_between : ℕ → ℕ → ℤ → Bool
is_between lo hi (pos n) = nat_le lo n && nat_le n hi
is_between lo hi (negsuc n) = false

-- the products from lo to hi of a list, by their values
abbrev pub values : ℕ → ℕ → List Product → List Product
values lo hi all = flat_map (λ v. filter (has_value v) all) (between lo hi)

-- a product's value lies from lo to hi
abbrev pub lies : ℕ → ℕ → Product → Bool
lies lo hi p = is_between lo hi p.value

abbrev pub size_of : Product → ℕ
size_of p = unsigned_abs p.value

abbrev pub has_size : ℕ → Product → Bool
has_size v p = size_of p == v

-- a product is no larger than this
abbrev pub is_upto : ℕ → Product → Bool
is_upto end p = nat_le (size_of p) end

-- sources whose product lies from lo to hi
unfoldable pub is_noted : ShowData → List (Option ℕ) → Kind → ℕ → ℕ → List ℕ → Bool
is_noted show ats kind lo hi t = is_between lo hi (product_of ats kind t) && is_candidate show ats kind t

-- the products from lo to hi whose sources begin with t and go on as one of us
abbrev pub noted_in : Search → ℕ → ℕ → List ℕ → List (List ℕ) → List Product
noted_in s lo hi t us = found_in (product_at s.ats.now s.kind) (is_noted s.show.now s.ats.now s.kind lo hi) t us

-- the same for all lists of k carriers
abbrev pub noted : Search → ℕ → ℕ → List ℕ → ℕ → List Product
noted s lo hi t k = noted_in s lo hi t (tuples k (upto (length s.ats.now)))

-- the products from lo to hi of a kind, if it has a victim
abbrev pub noted_of : ShowData → List (Option ℕ) → ℕ → ℕ → Kind → List Product
noted_of show ats lo hi kind =
    if has_victim kind
    then found_in (product_at ats kind) (is_noted show ats kind lo hi) [] (tuples (roles_of kind - 1) (upto (length ats)))
    else []
