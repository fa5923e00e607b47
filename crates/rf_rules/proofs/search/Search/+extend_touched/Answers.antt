use Rattle.std.proofs.Common.{◌≡◌, ◌+◌, ◌-◌, ◌<◌, length, take, ap, sym, ◌∙◌, arith, w64}
use Rattle.std.proofs.lemmas.Int.{to_z-of_z}
use Rattle.rf_terms.specs.Kinds.{roles_of}
use Rattle.rf_rules.proofs.TallyLemmas.{same-more}
use Rattle.rf_rules.proofs.ReadyLemmas.{found-next, taken-many, taken-more}
use Rattle.rf_rules.proofs.SearchLemmas.{broken-no_candidate, end, hopeless, more, none-next, skip, start}
use Rattle.rf_rules.proofs.TouchLemmas.{touched-unbroken}
use Rattle.rf_rules.proofs.search.Search.+extend_touched.Goals as goal

pub loop-carrier-init : goal.loop-carrier-init
loop-carrier-init t c = start _ _ (take c.args.depth c.args.roles) (roles_of c.args.self.now.kind - c.args.depth - 1)
    (length c.args.self.now.ats.now) c.args.tally.now

pub loop-carrier-preserved-then-is_hopeless : goal.loop-carrier-preserved-then-is_hopeless
loop-carrier-preserved-then-is_hopeless t c =
    let s = c.args.self.now in
    let u = take c.args.depth c.args.roles in
    let k = roles_of s.kind - c.args.depth - 1 in
    skip _ _ u k (length s.ats.now) c.loop-carrier.carrier c.args.tally.now c.loop-carrier.tally c.loop-carrier.invariant
    (hopeless _ _ u k (length s.ats.now) c.loop-carrier.carrier
    (λ v. touched-unbroken s.show.now s.ats.now s.kind c.args.touch.now.mask _ (broken-no_candidate s.show.now s.ats.now s.kind _ (c.if-is_hopeless.ensures v))))

pub extend_touched-requires : goal.extend_touched-requires
extend_touched-requires t c =
    let s = c.args.self.now in
    let deep : c.args.depth + 1 < roles_of s.kind = omega (arith, ap length c.requires.ready.coefficients, c.if-depth-self.false, c.requires.depth) in
    let next = taken-more s c.args.roles c.args.depth c.loop-carrier.carrier _ (omega arith) (omega (arith, c.requires.depth)) c.requires.taken c.loop-carrier-test.true
    (to_z-of_z w64 c.with-next.result (record { sfits = c.with-next.type_inv }) ∙ c.with-next.ensures) in
    (omega (arith, deep, c.decreases), (c.requires.ready, (c.requires.known, (c.requires.same, (c.requires.touch, (deep, next))))))

pub loop-carrier-preserved : goal.loop-carrier-preserved
loop-carrier-preserved t c =
    let s = c.args.self.now in
    let k = roles_of s.kind - c.args.depth - 1 in
    more _ _ (take c.args.depth c.args.roles) k (length s.ats.now) c.loop-carrier.carrier c.args.tally.now c.loop-carrier.tally c.extend_touched.new.tally c.loop-carrier.invariant
    (same-more c.loop-carrier.tally c.extend_touched.new.tally _ _
    (found-next _ _ s.kind c.args.roles c.args.depth c.loop-carrier.carrier _ k (length s.ats.now) (omega arith) c.requires.depth (omega arith)) c.in_ok-extend_touched.ensures)

pub returns : goal.returns
returns t c =
    let s = c.args.self.now in
    end _ _ (take c.args.depth c.args.roles) (roles_of s.kind - c.args.depth - 1) (roles_of s.kind - c.args.depth)
    (length s.ats.now) c.loop-carrier.carrier c.args.tally.now c.loop-carrier.tally (omega (arith, c.requires.depth)) (omega arith) c.loop-carrier.invariant

pub returns-then-is_none : goal.returns-then-is_none
returns-then-is_none t c =
    let s = c.args.self.now in
    let u = take c.args.depth c.args.roles in
    none-next _ _ u (roles_of s.kind - length u - 1) (roles_of s.kind - c.args.depth) (length s.ats.now) c.args.tally.now
    (omega (arith, taken-many s.kind c.args.roles c.args.depth (omega arith) c.requires.depth, c.requires.depth)) (λ k h. c.near_touched-near.ensures k h (c.if-is_none.ensures k))

pub loop-carrier-preserved-then-not-has : goal.loop-carrier-preserved-then-not-has
loop-carrier-preserved-then-not-has t c =
    let s = c.args.self.now in
    let u = take c.args.depth c.args.roles in
    let left : roles_of s.kind - length u - 1 ≡ roles_of s.kind - c.args.depth - 1 = omega (arith, taken-many s.kind c.args.roles c.args.depth (omega arith) c.requires.depth) in
    skip _ _ u (roles_of s.kind - c.args.depth - 1) (length s.ats.now) c.loop-carrier.carrier c.args.tally.now c.loop-carrier.tally c.loop-carrier.invariant
    (rw left at (c.near_touched-near.ensures c.loop-carrier.carrier c.loop-carrier-test.true (sym c.has.ensures ∙ c.if-not-has.true)))
