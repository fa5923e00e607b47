use Rattle.rf_saved.proofs.Accepted.{accepted}
use Rattle.rf_saved.proofs.saved_search_is_accepted.Goals as goal

pub returns : goal.returns
returns c = accepted c.written_log_reads_back.ensures c.closed_walk_has_no_plan.ensures c.started_is_honest.ensures
