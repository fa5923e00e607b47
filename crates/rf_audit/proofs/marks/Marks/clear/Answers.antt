use Rattle.std.proofs.Common.{◌≡◌, ◌∙◌, ℕ, not, ◌&&◌, ap, arith, nat_le, nat_lt}
use Rattle.rf_audit.specs.Left.{has}
use Rattle.rf_audit.proofs.marks.Marks.clear.Goals as goal

pub returns-clause-cleared : goal.returns-clause-cleared
returns-clause-cleared c =
    let last : c.loop-k.k ≡ c.args.end = let to = c.loop-k.auto.k-end c.requires.order in let past = c.loop-k-test.false in omega (arith, to, past) in
    λ j. c.loop-k.invariant.cleared j ∙ ap (λ (n : ℕ). has c.args.self.now j && not (nat_le c.args.from j && nat_lt j n)) last
