use Rattle.std.proofs.Common.{◌<◌, ℕ, List, subst, Option, Contains}
use Rattle.rf_terms.specs.declared.kind.Kind.{Kind}
use Rattle.rf_terms.specs.Kinds.{kinds, roles_of}
use Rattle.rf_show.specs.Case.{case_of}
use Rattle.rf_audit.specs.Left.{Falls, IsClearedWith}
use Rattle.rf_audit.proofs.Settles.{left-more}
use Rattle.rf_audit.proofs.closing.fix.Goals as goal

pub returns-clause-left : goal.returns-clause-left
returns-clause-left c = λ path left.
    let case = case_of c.args.show.now in
    let old = c.args.left.now.sets.items in
    left-more case c.args.left.now.fixed.items c.args.carrier c.args.at c.requires.fixed path old c.spread.new.sets.items c.requires.newly left
    (subst (λ (fs : List (Option ℕ)). Falls case fs old c.spread.new.sets.items) c.as_slice.ensures.value c.spread.ensures.falls)
    (subst (λ (fs : List (Option ℕ)). (kind : Kind) (place : ℕ) → Contains kinds kind → place < roles_of kind →
    IsClearedWith case fs c.spread.new.sets.items c.args.carrier kind place) c.as_slice.ensures.value c.spread.ensures.cleared)
