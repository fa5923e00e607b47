use Rattle.std.proofs.Common.{sym, ◌∙◌, arith}
use Rattle.rf_nogoods.proofs.WatchLemmas.{watch_known, watches_done}
use Rattle.rf_nogoods.proofs.watch.Watches.are_left.Goals as goal

pub has-requires : goal.has-requires
has-requires c =
    let watches = c.requires.watches in
    watch_known c.args.domains.now c.args.conds.now watches.i c.args.self.now.first c.requires.fit (omega (arith, watches.apart, watches.known)) watches.first

pub has-requires-then-has : goal.has-requires-then-has
has-requires-then-has c =
    let watches = c.requires.watches in
    watch_known c.args.domains.now c.args.conds.now watches.j c.args.self.now.second c.requires.fit watches.known watches.second

pub returns-then-has : goal.returns-then-has
returns-then-has c = λ left case.
    watches_done case c.args.domains.now c.args.conds.now c.args.self.now c.requires.watches
    (sym c.has.ensures ∙ c.if-has.true) (sym c.has-then-has.ensures ∙ left)
