-- What a search keeps.
use Rattle.std.specs.Prelude.{◌≡◌, ◌<◌, ◌≤◌, length}
use Rattle.rf_terms.specs.Kinds.{roles_of}
use Rattle.rf_show.specs.Limits.{most_carriers}
use Rattle.std.specs.Option.{IfSome}
use Rattle.rf_spares.specs.Crowds.{IsCrowd, asked_at, needs_of}
use Rattle.rf_spares.specs.Harms.{Site}
use Rattle.rf_spares.specs.declared.crowd.Crowd.{Crowd}
use Rattle.rf_spares.specs.declared.search.Search.{Search}

abbrev pub site : Crowd → Site
site crowd = record { show = crowd.show.now; profile = crowd.profile; zone = crowd.zone }

abbrev pub site_of : Search → Site
site_of s = site s.crowd.now

pub record IsSearch (s : Search) : Type 0 where
  pub known : IsCrowd s.crowd.now
  pub few : length s.ats.now ≤ most_carriers
  pub role : s.role < roles_of s.kind
  pub must : IfSome s.must (λ c. c < length s.ats.now)
  pub own : s.own ≡ asked_at s.crowd.now.show.now s.crowd.now.profile s.kind
  pub needs : s.needs ≡ needs_of s.crowd.now.show.now s.crowd.now.profile s.kind
