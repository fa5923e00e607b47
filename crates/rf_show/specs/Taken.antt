use Rattle.std.specs.Prelude.{nat_eq, length, Bool, ◌&&◌, Option, Some, None, if◌then◌else◌}
use Rattle.rf_show.specs.declared.undo.Undo.{Undo}
use Rattle.rf_show.specs.declared.undo.Step.{Step}
use Rattle.rf_show.specs.declared.undo.Step.TheVariants.{Profiles, Carriers, Frequencies, Zones, Bans, Scans}
use Rattle.rf_show.specs.After.{placed}
use Rattle.rf_show.specs.Change.{fits, changed}
use Rattle.rf_show.specs.Show.{ShowData, is_show}
use Rattle.rf_show.specs.ZoneChange.{zones_fit, zones_changed}

-- whether what a step changes is there
abbrev pub step_fits : ShowData → Step → Bool
step_fits show (Profiles change) = fits show.profiles change
step_fits show (Carriers change) = fits show.carriers change
step_fits show (Frequencies ats) = nat_eq (length ats) (length show.carriers)
step_fits show (Zones change) = zones_fit show.zones change
step_fits show (Bans change) = fits show.bans change
step_fits show (Scans change) = fits show.scans change

-- the show after a step
abbrev pub stepped : ShowData → Step → ShowData
stepped show (Profiles change) = record show { profiles = changed show.profiles change }
stepped show (Carriers change) = record show { carriers = changed show.carriers change }
stepped show (Frequencies ats) = record show { carriers = placed show.carriers ats }
stepped show (Zones change) = record show { zones = zones_changed show.zones change }
stepped show (Bans change) = record show { bans = changed show.bans change }
stepped show (Scans change) = record show { scans = changed show.scans change }

-- the show to which a step leads, where it fits and leads to a show
abbrev pub leads : ShowData → Step → Option ShowData
leads show step = if step_fits show step && is_show (stepped show step) then Some (stepped show step) else None

-- the show to which an undo value leads
abbrev pub taken : ShowData → Undo → Option ShowData
taken show undo = leads show undo
