use Rattle.std.proofs.Common.{◌≡◌, sym, arith}
use Rattle.std.proofs.lemmas.List.FromFn.{map-range_with_len_more}
use Rattle.rf_show.specs.Query.{is_allowed}
use Rattle.rf_active.proofs.ListLemmas.{allowed_is, channels_are}
use Rattle.rf_active.proofs.carrier.flags.Goals as goal

pub loop-k-preserved : goal.loop-k-preserved
loop-k-preserved c =
    let allowed = allowed_is c.args.show.now c.args.carrier c.loop-k.k _ _ c.requires.own c.freq.ensures in
    rw (c.in_ok-push.ensures.items, c.loop-k.invariant, c.may_take.ensures, sym allowed)
    (sym (map-range_with_len_more (is_allowed c.args.show.now c.args.carrier) 0 c.loop-k.k c.loop-k.k (omega arith)))

pub returns : goal.returns
returns c =
    let full : c.loop-k.k ≡ c.count-count.result = omega arith in
    rw (channels_are c.args.show.now c.args.carrier _ c.requires.own, ← c.count-count.ensures.value, ← full) c.loop-k.invariant
