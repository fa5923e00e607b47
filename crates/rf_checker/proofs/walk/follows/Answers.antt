use Rattle.std.proofs.Common.{◌∙◌, ap, sym, List}
use Rattle.rf_checker.proofs.WalkLemmas.{box_reversed}
use Rattle.std.specs.List.{list_all}
use Rattle.rf_exclusions.specs.declared.span.Span.{Span}
use Rattle.rf_log.specs.Box.{Box, holds_throughout}
use Rattle.rf_show.specs.Case.{case_of}
use Rattle.rf_checker.specs.Boxes.{box_in}
use Rattle.rf_checker.proofs.walk.follows.Goals as goal

pub returns : goal.returns
returns c = c.all_throughout.ensures ∙ ap (λ (b : Box). list_all (holds_throughout (case_of c.args.show.now) b) c.args.conds.now)
    (ap (λ (xs : List (List Span)). box_in xs) c.as_slice.ensures.value ∙ (c.in_ok-sets.ensures.same ∙ sym (box_reversed (case_of c.args.show.now) c.args.path.now)))
