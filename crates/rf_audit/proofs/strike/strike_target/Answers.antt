use Rattle.std.proofs.Common.{◌∙◌, ◌<◌, ℕ, List, Bool, true, false, not, ◌&&◌, [], length, take, set, sym, ap, arith, nat_le, nat_lt, true≢false}
use Rattle.std.proofs.lemmas.List.{get_or_default}
use Rattle.rf_log.specs.Case.{is_instance}
use Rattle.rf_show.specs.Case.{case_of}
use Rattle.rf_audit.specs.Left.{has}
use Rattle.rf_audit.proofs.Struck.{target-not, target-hits, target-cleared, cut-falls, cut-gone}
use Rattle.rf_audit.proofs.strike.strike_target.Goals as goal

pub returns-then-not-is_instance-clause-cleared : goal.returns-then-not-is_instance-clause-cleared
returns-then-not-is_instance-clause-cleared c = target-not (case_of c.args.show.now) c.args.fixed.now c.args.aim.kind c.args.aim.place c.args.chosen c.args.freqs.now c.args.rest
    (record { four = omega arith; full = c.requires.full; low = c.requires.aim.low; chose = c.requires.chosen; is = c.requires.rest }) c.args.c c.args.sets.now.items
    (ap (λ (n : ℕ). is_instance (case_of c.args.show.now) c.args.aim.kind (take n (set c.args.chosen c.args.aim.place c.args.c))) (sym c.requires.full)
    ∙ sym c.is_instance.ensures ∙ c.if-not-is_instance.true)

pub returns-clause-falls : goal.returns-clause-falls
returns-clause-falls c =
    let old = c.args.sets.now.items in
    let low : c.args.c < length old = let e = c.requires.sized.full in let k = c.requires.known in omega (arith, e, k) in
    let at = c.index_mut.ensures.value ∙ get_or_default old c.args.c c.index_mut.result.now [] low in
    cut-falls (case_of c.args.show.now) c.args.fixed.now old c.clear.new.self c.args.c c.args.from c.args.end c.requires.sized low (c.clear.ensures.same ∙ ap length at)
    (λ k. c.clear.ensures.cleared k ∙ ap (λ (m : List Bool). has m k && not (nat_le c.args.from k && nat_lt k c.args.end)) at)
    (target-hits (case_of c.args.show.now) c.args.fixed.now c.args.aim.kind c.args.aim.place c.args.chosen c.args.freqs.now c.args.rest
    (record { four = omega arith; full = c.requires.full; low = c.requires.aim.low; chose = c.requires.chosen; is = c.requires.rest }) c.args.c (c.args.from, c.args.end) c.requires.window
    (ap (λ (n : ℕ). is_instance (case_of c.args.show.now) c.args.aim.kind (take n (set c.args.chosen c.args.aim.place c.args.c))) (sym c.requires.full)
    ∙ sym c.is_instance.ensures ∙ c.if-not-is_instance.false) c.requires.within)

pub returns-clause-cleared : goal.returns-clause-cleared
returns-clause-cleared c =
    let old = c.args.sets.now.items in
    let low : c.args.c < length old = let e = c.requires.sized.full in let k = c.requires.known in omega (arith, e, k) in
    let at = c.index_mut.ensures.value ∙ get_or_default old c.args.c c.index_mut.result.now [] low in
    target-cleared (case_of c.args.show.now) c.args.fixed.now c.args.aim.kind c.args.aim.place c.args.chosen c.args.freqs.now c.args.rest
    (record { four = omega arith; full = c.requires.full; low = c.requires.aim.low; chose = c.requires.chosen; is = c.requires.rest }) c.args.c (c.args.from, c.args.end) c.requires.window
    (set old c.args.c c.clear.new.self) (returns-clause-falls c).sized
    (cut-gone (case_of c.args.show.now) c.args.fixed.now old c.clear.new.self c.args.c c.args.from c.args.end c.requires.sized low (c.clear.ensures.same ∙ ap length at)
    (λ k. c.clear.ensures.cleared k ∙ ap (λ (m : List Bool). has m k && not (nat_le c.args.from k && nat_lt k c.args.end)) at))

pub returns-in-None-clause-cleared : goal.returns-in-None-clause-cleared
returns-in-None-clause-cleared c =
    let old = c.args.sets.now.items in
    let at = c.index.ensures ∙ get_or_default old c.args.c c.index.result.now [] (let e = c.requires.sized.full in let k = c.requires.known in omega (arith, e, k)) in
    target-cleared (case_of c.args.show.now) c.args.fixed.now c.args.aim.kind c.args.aim.place c.args.chosen c.args.freqs.now c.args.rest
    (record { four = omega arith; full = c.requires.full; low = c.requires.aim.low; chose = c.requires.chosen; is = c.requires.rest }) c.args.c (c.args.from, c.args.end) c.requires.window
    old c.requires.sized (λ k here above below. true≢false (sym here ∙ (ap (λ (m : List Bool). has m k) (sym at) ∙ c.in-None.ensures k above below)))
