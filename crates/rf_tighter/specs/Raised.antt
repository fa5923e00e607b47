-- Plans of shows whose spacings and margins are wider.
use Rattle.std.specs.Prelude.{◌≡◌, ℕ, ◌+◌, ◌<◌, ◌≤◌, List, length}
use Rattle.rf_log.specs.Case.{Case, IsPlan, carrier_of, is_allowed}
use Rattle.rf_show.specs.Case.{case_of}
use Rattle.rf_show.specs.Raised.{raised}
use Rattle.rf_show.specs.Show.{ShowData}

-- raised by nothing, a show is as it was
abbrev pub RaisedByNone : Type 0
RaisedByNone = (show : ShowData) → raised show 0 ≡ show

-- the same channels, and the same of them allowed
pub record IsSameChoice (a b : Case) : Type 0 where
  pub carriers : length a.carriers ≡ length b.carriers
  pub freqs : (c : ℕ) → c < length b.carriers → (carrier_of a c).freqs ≡ (carrier_of b c).freqs
  pub allowed : (c k : ℕ) → c < length b.carriers → is_allowed a c k ≡ is_allowed b c k

-- raising changes no channel, and none of those that are allowed
abbrev pub RaisingKeepsAllowed : Type 0
RaisingKeepsAllowed = (show : ShowData) (extra : ℕ) → IsSameChoice (case_of (raised show extra)) (case_of show)

-- a plan of the show that is raised by more is one of the show that is raised by less
abbrev pub RaisingKeepsPlans : Type 0
RaisingKeepsPlans = (show : ShowData) (less more : ℕ) (plan : List ℕ) → less ≤ more
    → IsPlan (case_of (raised show more)) plan → IsPlan (case_of (raised show less)) plan

-- a plan of the show that is raised by one more is one of the show that is raised by one less
abbrev pub OneWiderKeepsPlans : Type 0
OneWiderKeepsPlans = (show : ShowData) (extra : ℕ) (plan : List ℕ)
    → IsPlan (case_of (raised show (extra + 1))) plan → IsPlan (case_of (raised show extra)) plan
