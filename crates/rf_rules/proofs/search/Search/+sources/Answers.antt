use Rattle.std.proofs.Common.{◌≡◌, ◌+◌, ◌-◌, ◌<◌, ◌++◌, length, take, ap, ◌∙◌, arith, w64}
use Rattle.std.proofs.lemmas.Int.{to_z-of_z}
use Rattle.rf_terms.specs.Kinds.{roles_of}
use Rattle.rf_rules.proofs.ReadyLemmas.{found-next, taken-more}
use Rattle.rf_rules.proofs.ProductLemmas.{noted-no_candidate, sources-end, sources-more, sources-skip, sources-start}
use Rattle.rf_rules.proofs.search.Search.+sources.Goals as goal

pub returns-then-depth-self : goal.returns-then-depth-self
returns-then-depth-self t c =
    let s = c.args.self.now in
    let same : length s.coefficients.now ≡ roles_of s.kind = ap length c.requires.ready.coefficients in
    let one : roles_of s.kind - 1 - c.args.depth ≡ 1 = omega (arith, same, c.if-depth-self.true) in
    rw one c.last_sources.ensures

pub loop-carrier-init : goal.loop-carrier-init
loop-carrier-init t c = sources-start c.args.self.now c.args.lo c.args.hi (take c.args.depth c.args.roles) (roles_of c.args.self.now.kind - 1 - c.args.depth - 1)
    (length c.args.self.now.ats.now) c.args.found.now.items

pub loop-carrier-preserved-then-is_hopeless : goal.loop-carrier-preserved-then-is_hopeless
loop-carrier-preserved-then-is_hopeless t c =
    let s = c.args.self.now in
    sources-skip s c.args.lo c.args.hi (take c.args.depth c.args.roles) (roles_of s.kind - 1 - c.args.depth - 1)
    (length s.ats.now) c.loop-carrier.carrier c.args.found.now.items c.loop-carrier.found.items c.loop-carrier.invariant
    (λ u. noted-no_candidate s.show.now s.ats.now s.kind c.args.lo c.args.hi _ (c.if-is_hopeless.ensures u))

pub sources-requires : goal.sources-requires
sources-requires t c =
    let s = c.args.self.now in
    let deep : c.args.depth + 1 + 1 < roles_of s.kind = omega (arith, ap length c.requires.ready.coefficients, c.if-depth-self.false, c.requires.depth) in
    let next = taken-more s c.args.roles c.args.depth c.loop-carrier.carrier _ (omega arith) (omega (arith, c.requires.depth)) c.requires.taken c.loop-carrier-test.true
    (to_z-of_z w64 c.with-next.result (record { sfits = c.with-next.type_inv }) ∙ c.with-next.ensures) in
    (omega (arith, deep, c.decreases), (c.requires.ready, (c.requires.known, (c.requires.same, (c.requires.victim, (deep, next))))))

pub loop-carrier-preserved : goal.loop-carrier-preserved
loop-carrier-preserved t c =
    let s = c.args.self.now in
    let k = roles_of s.kind - 1 - c.args.depth - 1 in
    sources-more s c.args.lo c.args.hi (take c.args.depth c.args.roles) k (length s.ats.now) c.loop-carrier.carrier c.args.found.now.items c.loop-carrier.found.items
    c.sources.new.found.items c.loop-carrier.invariant (c.in_ok-sources.ensures ∙ ap (λ us. c.loop-carrier.found.items ++ us)
    (found-next _ _ s.kind c.args.roles c.args.depth c.loop-carrier.carrier _ k (length s.ats.now) (omega arith) (omega (arith, c.requires.depth)) (omega arith)))

pub returns : goal.returns
returns t c =
    let s = c.args.self.now in
    let same : length s.coefficients.now ≡ roles_of s.kind = ap length c.requires.ready.coefficients in
    sources-end s c.args.lo c.args.hi (take c.args.depth c.args.roles) (roles_of s.kind - 1 - c.args.depth - 1) (roles_of s.kind - 1 - c.args.depth)
    (length s.ats.now) c.loop-carrier.carrier c.args.found.now.items c.loop-carrier.found.items (omega arith)
    (omega (arith, same, c.if-depth-self.false, c.requires.depth)) c.loop-carrier.invariant
