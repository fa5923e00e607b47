use Rattle.rf_rules.proofs.company.Company.sharers.Goals as goal

pub loop-slice-init : goal.loop-slice-init
loop-slice-init c = λ k. c.none-mask.ensures k
