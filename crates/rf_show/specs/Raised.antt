-- A show whose spacings and margins are wider.
use Rattle.std.specs.Prelude.{ℕ, Bool, map}
use Rattle.std.specs.List.{list_all}
use Rattle.rf_profiles.specs.Profile.{is_width, wider_profile, widths}
use Rattle.rf_show.specs.Show.{ShowData}

-- the show in which each spacing and each margin that isn't 0 is wider by so much
abbrev pub raised : ShowData → ℕ → ShowData
raised show extra = record show { profiles = map (wider_profile extra) show.profiles }

-- no spacing, half width or margin is wider than a text may give
abbrev pub is_textual : ShowData → Bool
is_textual show = list_all (λ p. list_all is_width (widths p)) show.profiles
