use Rattle.std.proofs.Common.{◌≡◌, ◌↔◌, ◌<◌, ◌+◌, ◌++◌, ◌∷◌, [], ℕ, List, true, false, length, get_or, take, nat_eq, append-nil, refl, subst, sym}
use Rattle.std.proofs.lemmas.List.{map-append}
use Rattle.std.proofs.lemmas.List.Elements.{filter_more}
use Rattle.rf_scan.specs.Hot.{hot_frequencies, is_hot}
use Rattle.rf_scan.specs.declared.point.Point.{Point}
use Rattle.rf_base.specs.declared.decimal.Decimal.{Decimal}
use Rattle.std.specs.List.{Contains, dedup}
use Rattle.std.specs.List.Sorted.{IsPermutation, IsSorted, IsStrictlyIncreasing}
use Rattle.std.specs.Ordering.{nat_cmp}
use Rattle.std.proofs.lemmas.List.Kept.{Contains-dedup_nat, Contains-from_dedup}
use Rattle.std.proofs.lemmas.List.Sorted.{Contains-permutation, IsPermutation-sym}
use Rattle.std.proofs.lemmas.Map.Keys.{IsStrictlyIncreasing-dedup}

-- a sorted list without its doubles rises
pub rises : (sorted kept : List ℕ) → kept ≡ dedup nat_eq sorted → IsSorted nat_cmp sorted → IsStrictlyIncreasing kept
rises sorted kept is order = subst (λ (xs : List ℕ). IsStrictlyIncreasing xs) (sym is) (IsStrictlyIncreasing-dedup sorted order)

-- and holds what the list held before it was sorted
pub same_members : (xs sorted kept : List ℕ) → IsPermutation xs sorted → kept ≡ dedup nat_eq sorted → (x : ℕ) → Contains kept x ↔ Contains xs x
same_members xs sorted kept moved is x = (
  λ here. Contains-permutation sorted xs x (IsPermutation-sym xs sorted moved) (Contains-from_dedup nat_eq sorted x (subst (λ (ys : List ℕ). Contains ys x) is here)),
  λ there. subst (λ (ys : List ℕ). Contains ys x) (sym is) (Contains-dedup_nat sorted x (Contains-permutation xs sorted x moved there)),
)

-- one point more, which is hot or isn't
pub one_hot : (threshold : Decimal) (points : List Point) (i : ℕ) (d : Point) (hot : List ℕ) → i < length points → hot ≡ hot_frequencies threshold (take i points)
    → is_hot threshold (get_or points i d) ≡ true → hot ++ (get_or points i d).millihertz ∷ [] ≡ hot_frequencies threshold (take (i + 1) points)
one_hot threshold points i d hot within so_far h =
    rw (filter_more (is_hot threshold) points i d within, h, map-append, so_far) refl

pub none_hot : (threshold : Decimal) (points : List Point) (i : ℕ) (d : Point) (hot : List ℕ) → i < length points → hot ≡ hot_frequencies threshold (take i points)
    → is_hot threshold (get_or points i d) ≡ false → hot ≡ hot_frequencies threshold (take (i + 1) points)
none_hot threshold points i d hot within so_far h =
    rw (filter_more (is_hot threshold) points i d within, h, map-append, so_far) (sym (append-nil _))
