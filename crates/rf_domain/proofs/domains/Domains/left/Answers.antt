use Rattle.std.proofs.Common.{◌≡◌, ◌∙◌, ◌+◌, List, [], Bool, length, get_or, ap, sym, subst, arith}
use Rattle.std.proofs.lemmas.List.{get_or_read, length-map}
use Rattle.rf_domain.specs.Indices.{flag, count_below}
use Rattle.rf_domain.specs.Sets.{sizes, has, AreCounts}
use Rattle.rf_domain.proofs.SetsLaws.{total_more, total_bound, size_small}
use Rattle.rf_domain.proofs.domains.Domains.left.Goals.{After-count}
use Rattle.rf_domain.proofs.domains.Domains.left.Goals as goal

counted : (c : After-count) → c.count.result ≡ count_below (flag (get_or c.deref-set-items.result.now c.loop-set.set-index [])) (length (get_or c.deref-set-items.result.now c.loop-set.set-index []))
counted c =
    c.count.ensures ∙ ap (λ s. count_below (flag s) (length s))
    (get_or_read c.deref-set-items.result.now c.loop-set.set-index c.set-item.result c.loop-set-test.true c.set-item.is [])

pub overflow_add-left : goal.overflow_add-left
overflow_add-left c =
    let sets = c.deref-set-items.result.now in
    let counts = subst (λ (x : List (List Bool)). AreCounts (sizes x)) (sym c.deref-set-items.ensures.value) c.self.invariant in
    omega (
      arith,
      total_more sets c.loop-set.set-index c.count.result (counted c),
      c.loop-set.invariant,
      total_bound (sizes sets) (has sets) (c.loop-set.set-index + 1) (size_small (sizes sets) counts.small),
      counts.few,
      length-map sets length,
    )

pub loop-set-preserved : goal.loop-set-preserved
loop-set-preserved c =
    ap (λ x. x + c.count.result) c.loop-set.invariant ∙ total_more c.deref-set-items.result.now c.loop-set.set-index c.count.result (counted c)
