use Rattle.std.proofs.Common.{◌∙◌, sym, arith}
use Rattle.rf_rules.proofs.TallyLemmas.{shown-full, shown-all}
use Rattle.std.proofs.lemmas.List.{length_push}
use Rattle.rf_rules.proofs.tally.Tally.show.Goals as goal

pub returns-then-len-ge-MAX_SHOWN-clause-shown : goal.returns-then-len-ge-MAX_SHOWN-clause-shown
returns-then-len-ge-MAX_SHOWN-clause-shown c = sym (shown-full c.args.shown.now.items _ (omega (arith, c.args.shown.now.ok.0)))

pub returns-clause-shown : goal.returns-clause-shown
returns-clause-shown c =
    let e = c.in_ok-push.ensures.items in
    e ∙ sym (shown-all _ (omega (arith, length_push c.args.shown.now.items c.args.conflict, c.args.shown.now.ok.0)))
