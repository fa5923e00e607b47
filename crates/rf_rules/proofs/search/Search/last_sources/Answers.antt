use Rattle.std.proofs.Common.{◌≡◌, ◌++◌, ◌∷◌, [], length, take, refl, ap, sym, ◌∙◌, arith}
use Rattle.rf_terms.specs.Kinds.{roles_of}
use Rattle.rf_show.specs.Show.{ShowData}
use Rattle.rf_rules.proofs.CompanyLemmas.{all-below}
use Rattle.rf_rules.proofs.ProductLemmas.{noted-closed, sources-end, sources-last, sources-more, sources-start}
use Rattle.rf_rules.proofs.search.Search.last_sources.Goals as goal

pub returns-then-not-is_open : goal.returns-then-not-is_open
returns-then-not-is_open c = noted-closed c.args.self.now c.args.lo c.args.hi (take c.args.depth c.args.roles) 1 c.args.found.now.items (sym c.is_open.ensures ∙ c.if-not-is_open.true)

pub mates-mates-requires-clause-taken : goal.mates-mates-requires-clause-taken
mates-mates-requires-clause-taken c = all-below _ _ _ (omega (arith, ap (λ (d : ShowData). length d.carriers) c.requires.same, c.requires.ready.carriers)) c.requires.taken

pub loop-carrier-init : goal.loop-carrier-init
loop-carrier-init c = sources-start c.args.self.now c.args.lo c.args.hi (take c.args.depth c.args.roles) 0 (length c.args.self.now.ats.now) c.args.found.now.items

pub note-requires-clause-few : goal.note-requires-clause-few
note-requires-clause-few c = omega (arith, c.requires.known.few, ap (λ (d : ShowData). length d.carriers) c.requires.same, c.requires.ready.carriers)

pub note-requires-clause-mates : goal.note-requires-clause-mates
note-requires-clause-mates c =
    let size : length c.args.self.now.coefficients.now ≡ roles_of c.args.self.now.kind = ap length c.requires.ready.coefficients in
    rw (c.requires.same, size) at (c.mates-mates.ensures c.loop-carrier.carrier
    (omega (arith, ap (λ (d : ShowData). length d.carriers) c.requires.same, c.requires.ready.carriers, c.loop-carrier-test.true)))

pub loop-carrier-preserved : goal.loop-carrier-preserved
loop-carrier-preserved c =
    let s = c.args.self.now in
    let t = take c.args.depth c.args.roles in
    sources-more s c.args.lo c.args.hi t 0 (length s.ats.now) c.loop-carrier.carrier c.args.found.now.items c.loop-carrier.found.items c.note.new.found.items c.loop-carrier.invariant
    (c.in_ok-note.ensures ∙ ap (λ us. c.loop-carrier.found.items ++ us) (sources-last s c.args.lo c.args.hi (t ++ c.loop-carrier.carrier ∷ []) 0 refl))

pub returns : goal.returns
returns c =
    let s = c.args.self.now in
    sources-end s c.args.lo c.args.hi (take c.args.depth c.args.roles) 0 1 (length s.ats.now) c.loop-carrier.carrier c.args.found.now.items c.loop-carrier.found.items (omega arith)
    (omega arith) c.loop-carrier.invariant
