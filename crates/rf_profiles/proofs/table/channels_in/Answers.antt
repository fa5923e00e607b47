use Rattle.std.proofs.Common.{◌≡◌, ◌∙◌, sym, refl, rules, None, Some}
use Rattle.toml.specs.View.{view}
use Rattle.rf_profiles.specs.File.{added, range_in}
use Rattle.rf_profiles.proofs.FileLemmas.{channels_step, channels_done}
use Rattle.rf_profiles.proofs.table.channels_in.Goals as goal

pub returns-in-None : goal.returns-in-None
returns-in-None c =
    let inside = rw c.deref-value-items.ensures.value at c.loop-value-test.true in
    let is = rw c.deref-value-items.ensures.value at c.value-item.is in
    let none : range_in (view c.value-item.result) ≡ None = search rules in
    sym (c.loop-value.invariant ∙ channels_step c.args.array.now.items c.loop-value.value-index c.value-item.result c.loop-value.channels inside is ∙ rw none refl)

pub returns-in-None-added : goal.returns-in-None-added
returns-in-None-added c =
    let inside = rw c.deref-value-items.ensures.value at c.loop-value-test.true in
    let is = rw c.deref-value-items.ensures.value at c.value-item.is in
    let some : range_in (view c.value-item.result) ≡ Some c.in-Some.range = search rules in
    let none : added c.loop-value.channels c.in-Some.range ≡ None = search rules in
    sym (c.loop-value.invariant ∙ channels_step c.args.array.now.items c.loop-value.value-index c.value-item.result c.loop-value.channels inside is ∙ rw (some, none) refl)

pub loop-value-preserved : goal.loop-value-preserved
loop-value-preserved c =
    let inside = rw c.deref-value-items.ensures.value at c.loop-value-test.true in
    let is = rw c.deref-value-items.ensures.value at c.value-item.is in
    let some : range_in (view c.value-item.result) ≡ Some c.in-Some.range = search rules in
    let more : added c.loop-value.channels c.in-Some.range ≡ Some c.in-Some-added.more = search rules in
    c.loop-value.invariant ∙ channels_step c.args.array.now.items c.loop-value.value-index c.value-item.result c.loop-value.channels inside is ∙ rw (some, more) refl

pub returns : goal.returns
returns c =
    let past = rw c.deref-value-items.ensures.value at c.loop-value-test.false in
    sym (c.loop-value.invariant ∙ channels_done c.args.array.now.items c.loop-value.value-index c.loop-value.channels past)
