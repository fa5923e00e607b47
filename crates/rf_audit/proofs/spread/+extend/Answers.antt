use Rattle.std.proofs.Common.{◌≡◌, ◌∙◌, ◌<◌, ℕ, List, length, get_or, refl, sym, ap, arith, is_some, slice_index, true≢false}
use Rattle.std.proofs.lemmas.List.{get_or_default}
use Rattle.rf_terms.specs.Kinds.{roles_of}
use Rattle.rf_terms.proofs.KindLaws.{four_roles}
use Rattle.rf_log.specs.Case.{carrier_of}
use Rattle.rf_log.proofs.CaseLaws.{known_in, known_roles}
use Rattle.rf_show.specs.Case.{case_of}
use Rattle.rf_audit.specs.Left.{fixed_at}
use Rattle.rf_audit.proofs.Struck.{falls-more}
use Rattle.rf_audit.proofs.Sets.{or-last}
use Rattle.rf_audit.proofs.Spreads.{still, along-more, chosen-more, small-more}
use Rattle.rf_audit.proofs.spread.+extend.Goals as goal
use Rattle.rf_audit.proofs.spread.+extend.Goals.{in-Some, in_default}

pub returns-then-depth-count-clause-cleared : goal.returns-then-depth-count-clause-cleared
returns-then-depth-count-clause-cleared t c = λ roles full along fix is made k here.
    c.strike.ensures.cleared (slice_index roles c.args.aim.place)
    (known_in _ roles c.args.aim.place 0 (known_roles (case_of c.args.show.now) c.args.aim.kind roles made) (omega (arith, full, c.requires.aim.low)))
    roles full (λ i low_i other. along i (omega (arith, c.if-depth-count.true, c.roles-count.ensures.value, low_i)) other) fix refl made k here

pub extend-requires-in-Some : goal.extend-requires-in-Some
extend-requires-in-Some t c =
    let case = case_of c.args.show.now in
    let fixed = c.args.fixed.now in
    let deep : c.args.depth < roles_of c.args.aim.kind = omega (arith, c.requires.depth, c.roles-count.ensures.value, c.if-depth-count.false) in
    let few = four_roles c.args.aim.kind in
    let four_freqs : length c.args.freqs ≡ 4 = omega arith in
    let known : c.loop-c.c < length case.carriers = omega (arith, c.requires.fixed.full, c.loop-c-test.true) in
    let row = c.requires.table.row c.loop-c.c (let e = c.requires.table.full in omega (arith, e, known)) c.index.result.now c.index.ensures in
    let low_k : c.in-Some.k < length c.index.result.now.freqs.items = omega (arith, ap length row.channels, c.requires.fixed.known c.loop-c.c c.in-Some.k c.in-Some.is) in
    let f = c.index-in-Some.result.now in
    let f_is : f ≡ get_or (carrier_of case c.loop-c.c).freqs c.in-Some.k 0 =
    c.index-in-Some.ensures ∙ get_or_default c.index.result.now.freqs.items c.in-Some.k f 0 low_k ∙ ap (λ (fs : List ℕ). get_or fs c.in-Some.k 0) row.channels in
    let chose = chosen-more case fixed c.args.depth c.args.aim.place c.args.chosen c.args.freqs c.loop-c.c c.in-Some.k f c.if-depth-aim.false
    (omega (arith, deep, few)) (omega (arith, deep, few, four_freqs)) known c.in-Some.is f_is c.requires.chosen in
    let small = small-more c.args.freqs c.args.depth f (omega (arith, deep, few, four_freqs)) (rw c.index-in-Some.ensures (row.small c.in-Some.k f low_k)) c.requires.small in
    (omega (arith, deep, c.decreases), (c.requires.table, (c.loop-c.invariant.falls.sized, (c.requires.fixed, (c.requires.aim, (omega (arith, deep), (chose, small)))))))

pub loop-c-preserved : goal.loop-c-preserved
loop-c-preserved t c =
    let kind = c.args.aim.kind in
    let place = c.args.aim.place in
    let deep : c.args.depth < roles_of kind = omega (arith, c.requires.depth, c.roles-count.ensures.value, c.if-depth-count.false) in
    elim c.match-fixed-c.branch [
      | in-Some w ↦ rw w.sets-is record {
        falls = falls-more c.loop-c.invariant.falls w.extend-in-Some.ensures.falls;
        cleared = λ roles full along fix is. or-last (slice_index roles c.args.depth) c.loop-c.c
            (λ below. still w.extend-in-Some.ensures.falls kind roles place (c.loop-c.invariant.cleared roles full along fix is below))
            (λ here. w.extend-in-Some.ensures.cleared roles full
            (along-more c.args.depth place c.args.chosen roles c.loop-c.c (omega (arith, deep, four_roles kind)) along here) fix is);
      }
      | in_default w ↦ rw w.sets-is record {
        falls = c.loop-c.invariant.falls;
        cleared = λ roles full along fix is. or-last (slice_index roles c.args.depth) c.loop-c.c (c.loop-c.invariant.cleared roles full along fix is)
            (λ here. absurd (true≢false (sym (fix c.args.depth (omega (arith, full, deep)) c.if-depth-aim.false)
            ∙ ap (λ (r : ℕ). is_some (fixed_at c.args.fixed.now r)) here ∙ ap is_some w.in_default.is)));
      }
    ]
