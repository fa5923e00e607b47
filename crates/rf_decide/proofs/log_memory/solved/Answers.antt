use Rattle.std.proofs.Common.{length, ap}
use Rattle.rf_decide.proofs.KeptLines.{solved_by}
use Rattle.rf_decide.proofs.log_memory.solved.Goals as goal

pub returns-in-Ok : goal.returns-in-Ok
returns-in-Ok c =
    c.decision_of.ensures c.args.show.now c.args.budget
    (solved_by c.args.show.now c.args.budget _ c.in-Ok.answer _ c.solve.new.out _ c.in_ok-problem.ensures (ap length c.carriers.ensures.value) c.new.ensures c.into_items.ensures
    c.in-Ok.ensures.solved)
