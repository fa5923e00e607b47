use Rattle.std.proofs.Common.{◌≡◌, true, false, Bool, [], ap, ◌∙◌, slice_index_or}
use Rattle.rf_log.specs.Case.{is_among}
use Rattle.rf_show.specs.Case.{case_of}
use Rattle.rf_tighter.specs.Locked.{kept}
use Rattle.rf_core.proofs.LockLists.{among-other, place-of}
use Rattle.rf_core.proofs.laws.least_by_inclusion.Goals as goal

pub returns : goal.returns
returns c = λ show n keep plans log is. record {
  blocks = λ more plan all has.
      c.closed_walk_has_no_plan.ensures (case_of (kept show keep)) log is.refutation.solved.ends plan
      (c.fewer_locks_keep_plans.ensures show (is_among keep) more plan all has);
  spares = λ fewer lost part in_keep gone.
      let at = place-of keep lost in_keep in (
        slice_index_or plans at.0 [],
        c.fewer_locks_keep_plans.ensures show fewer _ _
            (λ d kept_d. among-other keep at.0 d lost at.1 at.2 (λ same. clash (fewer lost) gone (ap fewer same ∙ kept_d)) (part d kept_d))
            (is.without at.0 at.1),
      );
}
  where
    clash : (b : Bool) → b ≡ false → b ≡ true → ⊥
    clash true e t = cc
    clash false e t = cc
