use Rattle.std.proofs.Common.{sym, arith}
use Rattle.rf_rules.proofs.TallyLemmas.{shown-full}
use Rattle.rf_rules.proofs.tally.Tally.count.Goals as goal

pub returns : goal.returns
returns c = λ conflict. record {
  shown = sym (shown-full c.args.self.now.shown.items _ (omega (arith, c.requires, c.args.self.now.shown.ok.0)));
  total = c.saturating_add-self.ensures;
}
