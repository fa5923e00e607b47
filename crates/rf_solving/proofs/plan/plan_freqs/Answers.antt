use Rattle.std.proofs.Common.{◌≡◌, ◌++◌, ◌+◌, ◌∷◌, [], ℕ, List, map, ap, sym, ◌∙◌, slice_index}
use Rattle.std.specs.List.{range_with_len}
use Rattle.rf_log.specs.Case.{freq_of}
use Rattle.rf_show.specs.Case.{case_of}
use Rattle.rf_solving.proofs.LinesLaws.{map_more}
use Rattle.rf_solving.proofs.plan.plan_freqs.Goals as goal

-- one value more
pushed : (f : ℕ → ℕ) (new old : List ℕ) (x k : ℕ) → new ≡ old ++ x ∷ [] → old ≡ map f (range_with_len 0 k) → x ≡ f k → new ≡ map f (range_with_len 0 (k + 1))
pushed f new old x k e front here =
    e ∙ ap (λ xs. xs ++ x ∷ []) front ∙ ap (λ y. map f (range_with_len 0 k) ++ y ∷ []) here ∙ sym (map_more f k)

pub loop-carrier-preserved : goal.loop-carrier-preserved
loop-carrier-preserved c =
    pushed (λ k. freq_of (case_of c.args.show.now) k (slice_index c.args.plan.now k)) _ _ _ _ c.in_ok-push.ensures.items c.loop-carrier.invariant c.khz_of.ensures
