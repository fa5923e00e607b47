use Rattle.std.proofs.Common.{◌≡◌, ◌<◌, ◌+◌, ◌-◌, ◌∷◌, [], ◌∙◌, ap, arith, length, sym, slice_index, append-nil, length-append}
use Rattle.rf_profiles.specs.Channels.{channels}
use Rattle.rf_rules.proofs.TupleLaws.{All-push}
use Rattle.rf_spares.specs.Fields.{channels_of}
use Rattle.rf_spares.specs.Newcomers.{channels_at}
use Rattle.rf_spares.specs.declared.crowd.Crowd.{Crowd}
use Rattle.rf_spares.specs.Searches.{site}
use Rattle.rf_spares.proofs.SpareLemmas.{ats-more, go-taken, none-left, stop-taken}
use Rattle.rf_spares.proofs.FieldLemmas.{khz-at}
use Rattle.rf_spares.proofs.choice.take.Goals as goal

pub returns-in_default-clause-taken : goal.returns-in_default-clause-taken
returns-in_default-clause-taken c =
    let turn = c.loop-turn in
    let site-is = ap site turn.invariant.crowd in
    let none = stop-taken turn.field (site c.args.field.now.crowd) site-is turn.invariant.known turn.taken.items (c.args.count - turn.turn) turn.from turn.invariant.ats
    c.in_default.ensures.none (omega (arith, c.loop-turn-test.true)) in
    sym (rw (none, append-nil) at turn.invariant.rest)

pub overflow_add-from : goal.overflow_add-from
overflow_add-from c =
    let chs = ap (λ (there : Crowd). channels_at there.show.now there.profile) c.loop-turn.invariant.crowd in
    omega (arith, c.in-Some.ensures.some.within, ap length chs, ap length c.channels.ensures, c.count.ensures.value, c.count.ensures.within)

pub loop-turn-preserved : goal.loop-turn-preserved
loop-turn-preserved c =
    let inv = c.loop-turn.invariant in
    let start = c.args.field.now in
    let field = c.loop-turn.field in
    let k = c.in-Some.k in
    let ks = c.loop-turn.taken.items in
    let first = c.in-Some.ensures.some in
    let more = c.in_ok-push.ensures.items in
    let chs : channels_of field ≡ channels_of start = ap (λ (there : Crowd). channels_at there.show.now there.profile) inv.crowd in
    let khz : slice_index (channels_of start) k ≡ c.freq.result =
    ap (λ cs. slice_index cs k) (sym chs) ∙ khz-at field _ k c.freq.result c.channels-in-loop-turn.ensures c.freq.ensures in
    let inside : k < length (channels_of start) = omega (arith, first.within, ap length chs) in
    record {
      known = c.in_ok-settle.ensures.known;
      crowd = c.in_ok-settle.ensures.crowd ∙ inv.crowd;
      ats = ats-more (site start.crowd) field.ats.items c.settle.new.self.ats.items ks c.push.new.self.items k c.freq.result c.in_ok-settle.ensures.ats inv.ats more khz;
      many = omega (arith, ap length more, length-append ks (k ∷ []), inv.many);
      within = rw more (All-push (λ j. j < length (channels_of start)) ks k inv.within inside);
      rest = go-taken field (site start.crowd) (ap site inv.crowd) inv.known _ ks c.push.new.self.items (c.args.count - c.loop-turn.turn)
          (c.args.count - (c.loop-turn.turn + 1)) c.loop-turn.from k inv.ats first
          (omega (arith, c.loop-turn-test.true)) inv.rest more;
    }

pub returns-clause-taken : goal.returns-clause-taken
returns-clause-taken c =
    let none = none-left (site c.args.field.now.crowd) c.loop-turn.taken.items (c.args.count - c.loop-turn.turn) c.loop-turn.from (omega (arith, c.loop-turn-test.false)) in
    sym (rw (none, append-nil) at c.loop-turn.invariant.rest)
