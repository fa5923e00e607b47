use Rattle.std.proofs.Common.{◌∷◌, ◌++◌, [], sym, ◌∙◌, ap, set}
use Rattle.rf_show.specs.Show.{is_profile}
use Rattle.rf_show.proofs.ListLemmas.{change_first_at}
use Rattle.rf_show.proofs.RoomLemmas.{range_added, range_fits, range_is}
use Rattle.rf_show.proofs.profile_steps.with_range.Goals as goal

pub unwrap-item-requires : goal.unwrap-item-requires
unwrap-item-requires c =
    let p = c.profile_place-place.ensures in
    rw c.with.ensures (range_fits _ _ _ _ _ _ c.requires.room (sym c.new.ensures.exact ∙ c.unwrap-range.ensures) p.place p.within c.index-profiles-place.is)

pub returns-clause-there : goal.returns-clause-there
returns-clause-there c =
    let p = c.profile_place-place.ensures in
    let found = c.index-profiles-place in
    let range = range_is _ _ _ _ (sym c.new.ensures.exact ∙ c.unwrap-range.ensures) in
    let channels = range_added _ _ _ (sym c.with.ensures ∙ c.unwrap-item.ensures) ∙ ap (λ r. found.result.channels ++ r ∷ []) range in
    ap (λ channels. set c.args.profiles.now c.profile_place-place.result (record found.result { channels = channels })) channels
    ∙ sym (change_first_at (is_profile c.args.name) _ c.args.profiles.now c.profile_place-place.result found.result p.place p.within found.is)
