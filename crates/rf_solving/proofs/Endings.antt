-- A search that has ended.
use Rattle.std.proofs.Common.{◌≡◌, ◌++◌, ℕ, List, refl, ap}
use Rattle.rf_log.specs.Solved.{Ending}
use Rattle.rf_log.specs.declared.line.LogLine.{LogLine}
use Rattle.rf_show.specs.Show.{ShowData}
use Rattle.rf_solving.specs.Solving.{IsEnded, IsSolvedBy, log_text, verdict_text}
