use Rattle.std.proofs.Common.{arith}
use Rattle.rf_nogoods.proofs.WatchLemmas.{watch_at}
use Rattle.rf_nogoods.proofs.watch.watches_at.Goals as goal

pub returns : goal.returns
returns c = record {
  i = c.args.first;
  j = c.args.second;
  apart = c.requires.apart;
  known = c.requires.known;
  first = watch_at c.args.conds.now c.args.first _ c.in_ok-first.first (omega (arith, c.requires.apart, c.requires.known)) c.in_ok-first.ensures;
  second = watch_at c.args.conds.now c.args.second _ c.in_ok-second.second c.requires.known c.in_ok-second.ensures;
}
