use Rattle.std.proofs.Common.{sym, ◌∙◌}
use Rattle.rf_rules.proofs.CompanyLemmas.{bits-no, bits-yes}
use Rattle.rf_rules.proofs.company.part.Goals as goal

pub returns : goal.returns
returns c = λ k. bits-no c.args.t.now c.args.mask c.none.result k (sym c.has_all.ensures ∙ c.if-has_all.false) (c.none.ensures k)

pub returns-then-has_all : goal.returns-then-has_all
returns-then-has_all c = λ k. bits-yes c.args.t.now c.args.mask k (sym c.has_all.ensures ∙ c.if-has_all.true)
