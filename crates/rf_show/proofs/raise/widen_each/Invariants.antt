use Rattle.std.proofs.Common.{◌≡◌, ◌++◌, map, take, drop}
use Rattle.rf_profiles.specs.Profile.{wider_profile}
use Rattle.rf_show.proofs.raise.widen_each.Given as goal

-- the front is wider, and the rest is as it was
abbrev pub invariant-loop-profile : goal.invariant-loop-profile
invariant-loop-profile l = l.profiles ≡ map (wider_profile l.extra) (take l.profile-index l.initial.profiles) ++ drop l.profile-index l.initial.profiles
