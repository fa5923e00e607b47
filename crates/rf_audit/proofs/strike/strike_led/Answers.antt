use Rattle.std.proofs.Common.{◌≡◌, ◌∙◌, ◌<◌, length, sym, arith, to_z, of_z, w64, slice_index}
use Rattle.std.proofs.lemmas.List.{get_or_default}
use Rattle.rf_terms.proofs.FormLaws.{told}
use Rattle.rf_show.specs.Case.{case_of}
use Rattle.rf_audit.proofs.Struck.{falls-more, target-cleared}
use Rattle.rf_audit.proofs.Sets.{one-more}
use Rattle.rf_audit.proofs.Spreads.{still}
use Rattle.rf_audit.proofs.Led.{led-window}
use Rattle.rf_audit.proofs.strike.strike_led.Goals as goal
use Rattle.rf_audit.proofs.strike.strike_led.Goals.{then-index-g, else-index-g}

pub returns-then-from-end-clause-cleared : goal.returns-then-from-end-clause-cleared
returns-then-from-end-clause-cleared c = λ d low led.
    let rest = to_z w64 (of_z w64 c.args.rest) in
    let rest_is : rest ≡ c.args.rest = told c.args.rest (let b = c.requires.bound in omega (arith, b)) in
    let low_d : d < length c.args.table.now.leaders.items = let e = c.requires.table.full in let l = c.requires.table.all_led in omega (arith, e, l, low) in
    target-cleared (case_of c.args.show.now) c.args.fixed.now c.args.aim.kind c.args.aim.place c.args.chosen c.args.freqs.now rest
    (record { four = omega arith; full = c.requires.full; low = c.requires.aim.low; chose = c.requires.chosen; is = rest_is ∙ c.requires.rest }) d c.window-from.result
    (led-window (case_of c.args.show.now) c.args.aim.kind c.args.aim.place c.args.chosen c.args.table.now.leaders.items c.args.table.now.rows.items c.index.result.now
    c.as_slice.result.now c.coefficient-multiple.result rest c.margin-margin.result c.args.g d (length c.args.freqs.now) c.window-from.result c.requires.table (omega arith)
    c.requires.aim.low c.requires.leader low_d led c.index.ensures c.as_slice.ensures.value c.coefficient-multiple.ensures.value c.coefficient-multiple.ensures.small.1
    c.requires.full c.margin-margin.ensures c.window-from.ensures.window)
    c.args.sets.now.items c.requires.sized (λ k here above below. let none = c.if-from-end.true in absurd (omega (arith, above, below, none)))

pub strike_target-requires-clause-window : goal.strike_target-requires-clause-window
strike_target-requires-clause-window c =
    let leaders = c.args.table.now.leaders.items in
    let d = c.loop-c.c in
    let low_d : d < length leaders = let t = c.loop-c-test.true in let n = c.len-c-end.ensures in omega (arith, t, n) in
    let led : slice_index leaders d ≡ c.args.g = sym (c.index-in-loop-c.ensures ∙ get_or_default leaders d c.index-in-loop-c.result.now 0 low_d) ∙ c.if-index-g.true in
    led-window (case_of c.args.show.now) c.args.aim.kind c.args.aim.place c.args.chosen leaders c.args.table.now.rows.items c.index.result.now
    c.as_slice.result.now c.coefficient-multiple.result _ c.margin-margin.result c.args.g d (length c.args.freqs.now) c.window-from.result c.requires.table (omega arith)
    c.requires.aim.low c.requires.leader low_d led c.index.ensures c.as_slice.ensures.value c.coefficient-multiple.ensures.value c.coefficient-multiple.ensures.small.1
    c.requires.full c.margin-margin.ensures c.window-from.ensures.window

pub loop-c-preserved : goal.loop-c-preserved
loop-c-preserved c =
    let leaders = c.args.table.now.leaders.items in
    elim c.if-index-g.branch [
      | then-index-g w ↦ rw w.sets-is record {
        falls = falls-more c.loop-c.invariant.falls w.strike_target.ensures.falls;
        cleared = one-more _ c.loop-c.c (λ d below led roles full along fix here.
            still w.strike_target.ensures.falls c.args.aim.kind roles c.args.aim.place (c.loop-c.invariant.cleared d below led roles full along fix here))
            (λ _. w.strike_target.ensures.cleared);
      }
      | else-index-g w ↦ rw w.sets-is record {
        falls = c.loop-c.invariant.falls;
        cleared = one-more _ c.loop-c.c c.loop-c.invariant.cleared (λ is. absurd (w.if-index-g.false (c.index-in-loop-c.ensures
            ∙ get_or_default leaders c.loop-c.c c.index-in-loop-c.result.now 0 (let t = c.loop-c-test.true in let n = c.len-c-end.ensures in omega (arith, t, n)) ∙ is)));
      }
    ]
