-- A chain of calls with one more in front.
use Rattle.std.proofs.Common.{ℕ, suc}
use Rattle.rf_show.specs.Show.{ShowData}
use Rattle.rf_decide.specs.Decisions.{Calls, no_call, and_call}

pub one-before : {S : Type 0} {asked : S → ShowData → S → Type 0} {first mid last : S} {n : ℕ} (show : ShowData) → asked first show mid → Calls asked n mid last → Calls asked (suc n) first last
one-before {S} {asked} {first} {mid} {last} {n} show once no_call = and_call no_call once
one-before {S} {asked} {first} {mid} {last} {n} show once (and_call calls again) = and_call (one-before show once calls) again
