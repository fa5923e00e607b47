use Rattle.std.proofs.Common.{◌≡◌, ◌∙◌, ℕ, Vec, Global, [], ap, get_or, sym, Some, slice_get}
use Rattle.std.specs.Option.{option_map_or}
use Rattle.std.proofs.lemmas.Option.{slice_get-get_or}
use Rattle.rf_profiles.specs.declared.profile.Profile.{Profile}
use Rattle.rf_spares.specs.Texts.{answer_text, ranges_at}
use Rattle.rf_spares.proofs.RunLemmas.{answer_is}
use Rattle.rf_spares.proofs.text.spares_text.Goals as goal

pub returns : goal.returns
returns c =
    let answer = c.args.answer.now in
    let profile : Profile = get_or c.profiles.result.now c.args.profile c.index-profiles-profile.result in
    let is : slice_get c.args.show.now.profiles c.args.profile ≡ Some profile =
    rw c.profiles.ensures (slice_get-get_or c.args.show.now.profiles c.args.profile c.index-profiles-profile.result c.requires.profile) in
    let ranges : ranges_at c.args.show.now c.args.profile ≡ profile.channels = ap (λ o. option_map_or (λ (p : Profile). p.channels) o []) is in
    ap (λ (v : Vec ℕ Global). v.items) c.into_bytes.ensures.value
    ∙ (answer_is profile.channels answer c.in_ok-flags.flags.items _ _ _ _ _ (rw c.as_slice-free.ensures at c.in_ok-flags.ensures.flags) c.new-text.ensures.bytes
    (rw c.deref.ensures.value at c.in_ok-write_ranges.ensures) (rw c.as_slice-free.ensures at c.in_ok-writeln.ensures.bytes)
    (rw c.as_slice-taken.ensures at c.in_ok-write_taken.ensures) (rw c.as_slice-taken.ensures at c.in_ok-writeln-2.ensures.bytes) ∙ ap (λ rs. answer_text rs answer) (sym ranges))
