use Rattle.std.proofs.Common.{sym, ◌∙◌, refl}
use Rattle.rf_show.specs.Show.{is_profile}
use Rattle.rf_show.proofs.ListLemmas.{found_position, some_is}
use Rattle.rf_show.proofs.find.profile_place.Goals as goal

pub unwrap-requires : goal.unwrap-requires
unwrap-requires c = rw (c.profile_position.ensures, found_position (is_profile c.args.name) c.args.profiles.now c.requires) refl

pub returns-clause-place : goal.returns-clause-place
returns-clause-place c =
    some_is _ _ (sym c.unwrap.ensures ∙ c.profile_position.ensures ∙ found_position (is_profile c.args.name) c.args.profiles.now c.requires)
