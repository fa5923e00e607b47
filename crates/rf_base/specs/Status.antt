-- The numbers of the statuses.
use Rattle.std.specs.Prelude.{ℕ}
use Rattle.rf_base.specs.declared.status.Status.{Status}
use Rattle.rf_base.specs.declared.status.Status.TheVariants.{Done, Refused, Words, Read, Write, Shelf, Memory, Long}

-- the exit status of the process
abbrev pub exit_code_of : Status → ℕ
exit_code_of Done = 0
exit_code_of Refused = 1
exit_code_of Words = 2
exit_code_of Read = 3
exit_code_of Write = 4
exit_code_of Shelf = 5
exit_code_of Memory = 6
exit_code_of Long = 7
