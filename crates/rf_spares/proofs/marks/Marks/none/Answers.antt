use Rattle.std.proofs.Common.{◌≡◌, false, arith, nat_lt}
use Rattle.std.proofs.lemmas.Bool.Decides.{nat_tests}
use Rattle.std.proofs.lemmas.List.Elements.{All-replicate, All-take}
use Rattle.std.proofs.lemmas.List.Folds.{list_any_none}
use Rattle.rf_spares.specs.Markings.{is_marked}
use Rattle.rf_spares.proofs.marks.Marks.none.Goals as goal

pub returns-clause-none : goal.returns-clause-none
unfolding is_marked
returns-clause-none c = λ f. rw c.loop-k.invariant (list_any_none (nat_lt f) _ (All-take (λ x. nat_lt f x ≡ false) _ _
    (All-replicate (λ x. nat_lt f x ≡ false) _ 0 (grind (arith, nat_tests)))))
