use Rattle.std.proofs.Common.{◌∙◌, ◌<◌, ℕ, List, Bool, [], ap, arith, ◌&&◌, length}
use Rattle.std.proofs.lemmas.List.{get_or_default}
use Rattle.rf_log.specs.Box.{is_met}
use Rattle.rf_show.specs.Case.{case_of}
use Rattle.rf_audit.specs.Left.{has}
use Rattle.rf_audit.proofs.Sets.{less-fewer, less-kept, less-sized}
use Rattle.rf_audit.proofs.Sides.{narrow-left, past-left}
use Rattle.rf_audit.proofs.left.Left.narrow.Goals as goal

pub returns-then-carrier-len : goal.returns-then-carrier-len
returns-then-carrier-len c = λ path left.
    let old = c.args.self.now.sets.items in
    let cond = c.args.cond.now in
    let low : cond.carrier < length old = omega (arith, c.if-carrier-len.true, c.len.ensures) in
    let at = c.index_mut.ensures.value ∙ get_or_default old cond.carrier c.index_mut.result.now [] low in
    let cut = λ (k : ℕ). c.narrow.ensures.met k ∙ ap (λ (m : List Bool). has m k && is_met cond k) at in
    let marks = c.narrow.new.self in
    narrow-left (case_of c.args.show.now) path cond c.args.self.now.fixed.items old _
    (less-sized old cond.carrier marks (is_met cond) low cut (case_of c.args.show.now) c.requires.sized (c.narrow.ensures.same ∙ ap length at))
    (less-fewer old cond.carrier marks (is_met cond) low cut) (less-kept old cond.carrier marks (is_met cond) low cut) left

pub returns-else-carrier-len : goal.returns-else-carrier-len
returns-else-carrier-len c = λ path left.
    past-left (case_of c.args.show.now) path c.args.cond.now c.args.self.now.fixed.items c.args.self.now.sets.items (omega (arith, c.if-carrier-len.false, c.len.ensures)) left
