use Rattle.std.proofs.Common.{take}
use Rattle.std.specs.List.{flat_map}
use Rattle.rf_text.specs.Shows.{Adds, profile_lines}
use Rattle.rf_text.proofs.show_lines.add_profiles.Given as goal

abbrev pub invariant-loop-profile : goal.invariant-loop-profile
invariant-loop-profile l = Adds l.initial.lines l.lines (flat_map profile_lines (take l.profile-index l.profiles))
