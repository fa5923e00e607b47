use Rattle.std.proofs.Common.{ap, refl, sym, ◌∙◌, length}
use Rattle.std.proofs.lemmas.List.FromFn.{length-map-range_with_len}
use Rattle.rf_show.specs.Query.{is_allowed}
use Rattle.rf_show.specs.Case.{channels_of}
use Rattle.rf_active.proofs.ActiveLemmas.{is_added}
use Rattle.rf_active.proofs.ListLemmas.{channels_are, margins_are, spacing_is}
use Rattle.rf_active.proofs.carrier.add_carrier.Goals as goal

pub add-requires-clause-flagged : goal.add-requires-clause-flagged
add-requires-clause-flagged c =
    ap length c.in_ok-allowed.ensures
    ∙ length-map-range_with_len (is_allowed c.args.show.now c.args.carrier) 0 (length (channels_of c.args.show.now c.args.carrier))
    ∙ ap length (channels_are c.args.show.now c.args.carrier _ c.profile_of-profile.ensures.value)
    ∙ sym (ap length c.in_ok-freqs.ensures.value)

pub returns : goal.returns
returns c =
    let show = c.args.show.now in
    let carrier = c.args.carrier in
    let own = c.profile_of-profile.ensures.value in
    let freqs = c.in_ok-freqs.ensures.value ∙ sym (channels_are show carrier _ own) in
    let margins = c.list.ensures ∙ sym (margins_are show carrier _ own) in
    is_added show carrier c.meeters.result c.meeters-2.result c.args.problem.now c.add.new.self _ c.add.result c.meeters-2.ensures c.meeters.ensures
    (rw (freqs, c.in_ok-allowed.ensures, sym (spacing_is show carrier _ own), margins) refl) c.add.ensures.ok
