use Rattle.std.proofs.Common.{◌≡◌, ◌≤◌, take, All}
use Rattle.rf_terms.specs.Forms.{AreFrequencies}
use Rattle.rf_profiles.specs.Channels as profile
use Rattle.rf_active.proofs.carrier.frequencies.Given as goal

abbrev pub invariant-loop-k : goal.invariant-loop-k
invariant-loop-k l = record {
  value : l.freqs.items ≡ take l.k (profile.channels l.channels);
  above : All (λ f. 1 ≤ f) l.freqs.items;
  below : AreFrequencies l.freqs.items;
}
