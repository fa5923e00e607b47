use Rattle.std.proofs.Common.{◌≤◌, ◌∷◌, [], length}
use Rattle.rf_text.specs.Shows.{first_range_line}
use Rattle.rf_text.proofs.ShowLemmas.{adds_both, on_ok, ranges_split}
use Rattle.rf_text.proofs.show_lines.add_profile.Goals as goal

pub returns : goal.returns
returns c =
    let ranges = c.ranges-ranges.ensures in
    let some : 1 ≤ length c.ranges-ranges.result.now = rw ranges.value ranges.form.some in
    let split = ranges_split c.args.profile.now c.ranges-ranges.result.now c.index-ranges-0.result some in
    let first = c.index-ranges-0.is in
    on_ok c.add_ranges.result (λ more. rw (← ranges.value, split, ← first)
    (adds_both _ _ _ (first_range_line c.args.profile.now c.index-ranges-0.result ∷ []) _ c.in_ok-add_first_range.ensures more)) c.add_ranges.ensures
