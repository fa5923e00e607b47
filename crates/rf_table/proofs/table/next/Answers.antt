use Rattle.rf_table.proofs.table.next.Goals as goal

pub returns-clause-value : goal.returns-clause-value
returns-clause-value c = c.renew.ensures.value c.args.old.now c.requires c.changed-mask.ensures
