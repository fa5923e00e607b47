use Rattle.rf_readback.proofs.LogBack.{reads_back}
use Rattle.rf_readback.proofs.written_log_reads_back.Goals as goal

pub returns : goal.returns
returns c = reads_back
