use Rattle.rf_domain.proofs.Lowest.{first_only, only_counted}
use Rattle.rf_domain.proofs.set.IndexSet.only.Goals as goal

pub returns-then-self-ne1 : goal.returns-then-self-ne1
returns-then-self-ne1 c = λ k only.
    c.if-self-ne1.true (only_counted c.self.inside.size c.self.inside.count c.self.inside.first c.self.inside.words.items c.args.self.now c.self.invariant c.self.view_is k only)

pub returns : goal.returns
returns c =
    first_only c.self.inside.size c.self.inside.count c.self.inside.first c.self.inside.words.items c.args.self.now c.self.invariant c.self.view_is c.if-self-ne1.false
