use Rattle.std.proofs.Common.{◌≡◌, ◌++◌, ◌∷◌, [], length, take, ap, sym, ◌∙◌, arith}
use Rattle.rf_terms.specs.Kinds.{roles_of}
use Rattle.rf_show.specs.Show.{ShowData}
use Rattle.rf_show.specs.Query.{margin_of}
use Rattle.rf_rules.specs.Searches.{broken_in}
use Rattle.rf_rules.proofs.CompanyLemmas.{all-below}
use Rattle.rf_rules.proofs.SearchLemmas.{broken-far, end, found-closed, more, one, skip, start}
use Rattle.rf_rules.proofs.TallyLemmas.{same-more}
use Rattle.rf_rules.proofs.TupleLaws.{tuples-zero}
use Rattle.rf_rules.specs.Tuples.{upto}
use Rattle.rf_rules.proofs.ReadyLemmas.{margin-taken, ready-lanes}
use Rattle.rf_rules.proofs.search.Search.victims.Goals as goal
use Rattle.rf_rules.proofs.search.Search.victims.Goals.{After-max-needs}

pub loop-carrier-init : goal.loop-carrier-init
loop-carrier-init c = start _ _ (take c.args.depth c.args.roles) 0 (length c.args.self.now.ats.now) c.args.tally.now

pub bounds-self-carrier : goal.bounds-self-carrier
bounds-self-carrier c = omega (arith, ready-lanes c.args.self.now c.requires.ready, c.loop-carrier-test.true)

needs : (c : After-max-needs) → c.max-needs.result ≡ margin_of c.args.self.now.show.now c.args.self.now.kind (take c.args.depth c.args.roles ++ c.loop-carrier.carrier ∷ [])
needs c =
    c.max-needs.ensures ∙ margin-taken c.args.self.now c.args.roles c.args.depth c.loop-carrier.carrier c.floor-floor.result _ c.requires.ready (omega arith) c.requires.depth
    c.loop-carrier-test.true c.floor-floor.ensures

pub loop-carrier-preserved-then-distance-from : goal.loop-carrier-preserved-then-distance-from
loop-carrier-preserved-then-distance-from c =
    let m = (goal.at.loop-carrier-preserved-then-distance-from c).After-max-needs in
    let s = c.args.self.now in
    skip _ _ (take c.args.depth c.args.roles) 0 (length s.ats.now) c.loop-carrier.carrier c.args.tally.now c.loop-carrier.tally c.loop-carrier.invariant
    (one _ _ (take c.args.depth c.args.roles ++ c.loop-carrier.carrier ∷ []) (length s.ats.now)
    (broken-far s.show.now s.ats.now s.kind (take c.args.depth c.args.roles ++ c.loop-carrier.carrier ∷ [])
    (omega (arith, needs m, c.distance-distance.ensures, c.from.ensures, c.if-distance-from.true))))

pub judge-requires-clause-carriers : goal.judge-requires-clause-carriers
judge-requires-clause-carriers c = omega (arith, c.requires.known.few, ap (λ (d : ShowData). length d.carriers) c.requires.same, c.requires.ready.carriers)

pub judge-requires-clause-mates : goal.judge-requires-clause-mates
judge-requires-clause-mates c =
    let size : length c.args.self.now.coefficients.now ≡ roles_of c.args.self.now.kind = ap length c.requires.ready.coefficients in
    rw (c.requires.same, size) at (c.mates-mates.ensures c.loop-carrier.carrier
    (omega (arith, ap (λ (d : ShowData). length d.carriers) c.requires.same, c.requires.ready.carriers, c.loop-carrier-test.true)))

pub judge-requires-clause-needs : goal.judge-requires-clause-needs
judge-requires-clause-needs c = needs (goal.at.judge-requires-clause-needs c).After-max-needs

pub returns-then-not-is_open : goal.returns-then-not-is_open
returns-then-not-is_open c =
    found-closed c.args.self.now (take c.args.depth c.args.roles) 1 c.args.tally.now (sym c.is_open.ensures ∙ c.if-not-is_open.true)

pub mates-mates-requires-clause-taken : goal.mates-mates-requires-clause-taken
mates-mates-requires-clause-taken c = all-below _ _ _ (omega (arith, ap (λ (d : ShowData). length d.carriers) c.requires.same, c.requires.ready.carriers)) c.requires.taken

pub loop-carrier-preserved : goal.loop-carrier-preserved
loop-carrier-preserved c =
    let s = c.args.self.now in
    let t = take c.args.depth c.args.roles in
    more _ _ t 0 (length s.ats.now) c.loop-carrier.carrier c.args.tally.now c.loop-carrier.tally c.judge.new.tally c.loop-carrier.invariant
    (same-more _ _ _ _ (ap (broken_in s (t ++ c.loop-carrier.carrier ∷ [])) (sym (tuples-zero (upto (length s.ats.now))))) c.in_ok-judge.ensures)

pub returns : goal.returns
returns c = end _ _ (take c.args.depth c.args.roles) 0 1 (length c.args.self.now.ats.now) c.loop-carrier.carrier c.args.tally.now c.loop-carrier.tally
    (omega arith) (omega arith) c.loop-carrier.invariant
