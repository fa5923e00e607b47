use Rattle.std.proofs.Common.{◌≡◌, ◌∙◌, List, ◌∷◌, reverse, sym, ap, subst, Some}
use Rattle.rf_log.specs.declared.cond.Cond.{Cond}
use Rattle.rf_log.specs.declared.line.LogLine.{LogLine}
use Rattle.rf_log.specs.Walk.{grown, left_side}
use Rattle.rf_show.specs.Case.{case_of}
use Rattle.rf_audit.specs.Left.{IsLeft}
use Rattle.rf_audit.proofs.follow.keep_up.Goals as goal

same-path : (one other : List Cond) → Some one ≡ Some other → one ≡ other
same-path one other e = cc

pub returns-in-Branch : goal.returns-in-Branch
returns-in-Branch c = λ before left after.
    let side = left_side c.in-Branch.cut c.in-Branch.carrier c.in-Branch.at in
    let is : side ∷ before ≡ reverse c.args.path.now = same-path (side ∷ before) (reverse c.args.path.now) (sym (ap (λ (line : LogLine). grown before line) c.in-Branch.is) ∙ after) in
    subst (λ (p : List Cond). IsLeft (case_of c.args.show.now) p c.narrow.new.self.fixed.items c.narrow.new.self.sets.items) is
    (subst (λ (one : Cond). IsLeft (case_of c.args.show.now) (one ∷ before) c.narrow.new.self.fixed.items c.narrow.new.self.sets.items) c.side_of.ensures (c.narrow.ensures before left))
