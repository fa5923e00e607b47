use Rattle.std.specs.Prelude.{ℕ}
use Rattle.rf_zones.specs.declared.mask.TheConstants.{MAX_CARRIERS}
use Rattle.rf_zones.specs.declared.zone_names.TheConstants.{MAX_ZONES}

-- how many carriers a show may have
abbrev pub most_carriers : ℕ
most_carriers = MAX_CARRIERS

-- how many profiles a show may have
abbrev pub most_profiles : ℕ
most_profiles = 64

-- how many zones a show may have
abbrev pub most_zones : ℕ
most_zones = MAX_ZONES

-- how many intervals a carrier may have
abbrev pub most_intervals : ℕ
most_intervals = 8

-- the largest spacing, half width or margin of a show, in kilohertz: wider than a text may give, since a show may be raised
abbrev pub widest : ℕ
widest = 101000

-- by how much a show may be raised, in kilohertz
abbrev pub most_raised : ℕ
most_raised = 1000

-- how many bans a show may have
abbrev pub most_bans : ℕ
most_bans = 256

-- how many scans a show may have
abbrev pub most_scans : ℕ
most_scans = 16

-- how far the threshold of a scan may be from 0, in billionths
abbrev pub farthest_threshold : ℕ
farthest_threshold = 200000000000

-- the largest width of a scan, in kilohertz
abbrev pub widest_scan : ℕ
widest_scan = 100000
