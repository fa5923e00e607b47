-- What an answer says of a line.
use Rattle.std.specs.Prelude.{ℕ, ◌==◌, Option, Some, None, Bool, true, false, if◌then◌else◌}
use Rattle.rf_log.specs.declared.verdict.Cause.{Cause}
use Rattle.rf_log.specs.declared.verdict.Verdict.{Verdict}
use Rattle.rf_log.specs.declared.verdict.Verdict.TheVariants as verdict

-- the cause by which a verdict refuses the line with this number
abbrev pub refusal_at : Verdict → ℕ → Option Cause
refusal_at verdict.Closed n = None
refusal_at (verdict.Unfinished branchings) n = None
refusal_at (verdict.Refused line cause) n = if line == n then Some cause else None

-- the answer says whether P holds
abbrev pub Tells : Type 0 → Bool → Type 0
Tells P true = P
Tells P false = P → ⊥
