use Rattle.std.specs.Prelude.{ℕ, Bool, ◌+◌, ◌*◌, ◌&&◌, nat_le}
use Rattle.std.specs.Int.{abs_diff}
use Rattle.std.specs.List.{list_any}
use Rattle.rf_exclusions.specs.declared.ban.Ban.{Ban}
use Rattle.rf_exclusions.specs.declared.scan_set.ScanSet.{ScanSet}

-- whether a ban, widened by half, holds a frequency: lo - half ≤ khz ≤ hi + half
abbrev pub is_touched_by_ban : Ban → ℕ → ℕ → Bool
is_touched_by_ban ban half khz = nat_le ban.lo (khz + half) && nat_le khz (ban.hi + half)

-- whether a hot point, in millihertz, is no farther from a frequency, in kilohertz, than width and half together
abbrev pub is_touched_by_scan : ScanSet → ℕ → ℕ → Bool
is_touched_by_scan scan half khz =
    list_any (λ p. nat_le (abs_diff (khz * 1000000) p) ((scan.width + half) * 1000000)) scan.hot
