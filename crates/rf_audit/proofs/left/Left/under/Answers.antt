use Rattle.std.proofs.Common.{◌∙◌, List, reverse, take, sym, ap, subst}
use Rattle.std.proofs.lemmas.List.{take_more, reverse-append}
use Rattle.rf_log.specs.declared.cond.Cond.{Cond}
use Rattle.rf_show.specs.Case.{case_of}
use Rattle.rf_audit.specs.Left.{IsLeft}
use Rattle.rf_audit.proofs.left.Left.under.Goals as goal

pub loop-cond-preserved : goal.loop-cond-preserved
loop-cond-preserved c = subst (λ (p : List Cond). IsLeft (case_of c.args.show.now) p c.narrow.new.self.fixed.items c.narrow.new.self.sets.items)
    (sym (ap reverse (take_more c.args.path.now c.loop-cond.cond-index _ c.loop-cond-test.true) ∙ reverse-append (take c.loop-cond.cond-index c.args.path.now) _))
    (c.narrow.ensures (reverse (take c.loop-cond.cond-index c.args.path.now)) c.loop-cond.invariant)
