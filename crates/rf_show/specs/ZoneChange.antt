use Rattle.std.specs.Prelude.{Bool, ◌&&◌, nat_lt, length, is_none}
use Rattle.rf_zones.specs.Zones.{ZonesData, zone_of, with_zone, without_last, is_last_free, with_coupling}
use Rattle.rf_show.specs.declared.zone_change.ZoneChange.{ZoneChange}
use Rattle.rf_show.specs.declared.zone_change.ZoneChange.TheVariants.{PutZone, TakeZone, SetCoupling}
use Rattle.rf_show.specs.Limits.{most_zones}

-- whether what a change speaks of is there
abbrev pub zones_fit : ZonesData → ZoneChange → Bool
zones_fit zones (PutZone name) = is_none (zone_of zones name) && nat_lt (length zones.names) most_zones
zones_fit zones TakeZone = nat_lt 1 (length zones.names) && is_last_free zones
zones_fit zones (SetCoupling a b coupling) = nat_lt a (length zones.names) && nat_lt b (length zones.names)

-- the zones after a change
abbrev pub zones_changed : ZonesData → ZoneChange → ZonesData
zones_changed zones (PutZone name) = with_zone zones name
zones_changed zones TakeZone = without_last zones
zones_changed zones (SetCoupling a b coupling) = with_coupling zones a b coupling
