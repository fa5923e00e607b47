use Rattle.std.proofs.Common.{◌≡◌, take, length, sym, ◌∙◌}
use Rattle.rf_rules.specs.Tuples.{tuples, upto}
use Rattle.rf_rules.specs.Searches.{found}
use Rattle.rf_rules.specs.Touched.{touched_in}
use Rattle.rf_rules.proofs.TouchLemmas.{all-touched}
use Rattle.rf_rules.proofs.search.Search.touched_victims.Goals as goal

pub returns-then-meets : goal.returns-then-meets
returns-then-meets c =
    let s = c.args.self.now in
    let t = take c.args.depth c.args.roles in
    let e : touched_in s c.args.mask t (tuples 1 (upto (length s.ats.now))) ≡ found s t 1 = all-touched s c.args.mask t (tuples 1 (upto (length s.ats.now))) (sym c.meets.ensures ∙ c.if-meets.true) in
    rw e c.victims.ensures
