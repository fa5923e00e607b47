use Rattle.std.proofs.Common.{arith, ◌<◌, length, ap}
use Rattle.std.proofs.lemmas.List.{length-map}
use Rattle.rf_propagate.specs.Laws.{same}
use Rattle.rf_nogoods.proofs.RemovalLemmas.{on_ok, wiped_done, nothing_done}
use Rattle.rf_nogoods.proofs.removal.take_all.Goals as goal

pub returns-then-carriers-eq0-clause-sound : goal.returns-then-carriers-eq0-clause-sound
returns-then-carriers-eq0-clause-sound c = λ case lines counts found. same

pub returns-then-carriers-eq0-clause-done : goal.returns-then-carriers-eq0-clause-done
returns-then-carriers-eq0-clause-done c = λ case counts.
    let sets = c.domains.result.now in
    nothing_done case _ c.args.conds.now (omega (arith, ap length counts, ap length c.domains.ensures.sizes, length-map sets length))

pub wipe-requires : goal.wipe-requires
wipe-requires c =
    let sets = c.domains.result.now in
    c.carrier_of.ensures c.args.trail.now.counts c.requires.fit (omega (arith, ap length c.domains.ensures.sizes, length-map sets length))

pub returns-clause-sound : goal.returns-clause-sound
returns-clause-sound c = λ case lines counts found. c.wipe.ensures.sound case lines c.args.conds.now counts found c.requires.held

pub returns-clause-done : goal.returns-clause-done
returns-clause-done c = on_ok c.wipe.result c.wipe.ensures.none (λ none case counts.
    let sets = c.domains.result.now in
    let known : c.carrier_of.result < length c.args.trail.now.counts =
    c.carrier_of.ensures c.args.trail.now.counts c.requires.fit (omega (arith, ap length c.domains.ensures.sizes, length-map sets length)) in
    wiped_done case _ c.args.conds.now c.carrier_of.result (omega (arith, known, ap length counts)) none)
