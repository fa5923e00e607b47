use Rattle.std.proofs.Common.{nat_eq, subst, ◌∙◌, List, ℕ}
use Rattle.std.specs.List.Sorted.{IsPermutation}
use Rattle.std.proofs.lemmas.List.Filters.{dedup_is}
use Rattle.rf_scan.proofs.HotLemmas.{rises, same_members}
use Rattle.rf_scan.proofs.RisingLemmas.{hot_of_is}
use Rattle.rf_scan.proofs.hot.hot_points.Goals as goal

pub from_vec-requires : goal.from_vec-requires
from_vec-requires c = rises _ _ (dedup_is nat_eq _ _ c.dedup.ensures.filtered) c.sort_unstable.ensures.sorted

pub returns-clause-exact : goal.returns-clause-exact
returns-clause-exact c = λ f.
    let sorted = c.sort_unstable.new.self.items in
    let moved = subst (λ (xs : List ℕ). IsPermutation xs sorted) c.in_ok-hot.ensures c.sort_unstable.ensures.permutation in
    same_members _ sorted c.from_vec.result moved (c.from_vec.ensures ∙ dedup_is nat_eq _ _ c.dedup.ensures.filtered) f

pub returns-clause-value : goal.returns-clause-value
returns-clause-value c =
    let sorted = c.sort_unstable.new.self.items in
    let moved = subst (λ (xs : List ℕ). IsPermutation xs sorted) c.in_ok-hot.ensures c.sort_unstable.ensures.permutation in
    let kept = c.from_vec.ensures ∙ dedup_is nat_eq _ _ c.dedup.ensures.filtered in
    hot_of_is _ _ c.from_vec.result (rises sorted _ kept c.sort_unstable.ensures.sorted) (same_members _ sorted c.from_vec.result moved kept)
