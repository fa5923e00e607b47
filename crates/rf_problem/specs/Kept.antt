-- What problems keep.
use Rattle.std.specs.Prelude.{◌≡◌, ◌≤◌, length, All}
use Rattle.std.specs.List.Sorted.{IsStrictlyIncreasing}
use Rattle.rf_terms.specs.Forms.{AreFrequencies}
use Rattle.rf_terms.specs.declared.kind.TheConstants.{MARGINS}
use Rattle.rf_zones.specs.declared.mask.TheConstants.{MAX_CARRIERS}
use Rattle.rf_problem.specs.declared.limits.TheConstants.{MAX_CHANNELS, MAX_WIDTH}
use Rattle.rf_problem.specs.Problem.{CarrierData, ProblemData}

-- the frequencies rise, and each is one of them; as many flags as frequencies; one margin per field of a profile
pub record IsCarrier (carrier : CarrierData) : Type 0 where
  pub rising : IsStrictlyIncreasing carrier.freqs
  pub above : All (λ f. 1 ≤ f) carrier.freqs
  pub below : AreFrequencies carrier.freqs
  pub few : length carrier.freqs ≤ MAX_CHANNELS
  pub flagged : length carrier.allowed ≡ length carrier.freqs
  pub spaced : carrier.spacing ≤ MAX_WIDTH
  pub whole : length carrier.margins ≡ MARGINS
  pub narrow : All (λ m. m ≤ MAX_WIDTH) carrier.margins

-- as many carriers as a mask has bits for
pub record IsProblem (problem : ProblemData) : Type 0 where
  pub few : length problem.carriers ≤ MAX_CARRIERS
