use Rattle.std.proofs.Common.{◌∙◌, ◌≡◌, ◌≤◌, ◌+◌, ◌-◌, ◌++◌, ◌∷◌, [], ℕ, length, set, take, ap, sym, ◌∙◌, arith}
use Rattle.std.proofs.lemmas.List.{length-take-le, take_more_set}
use Rattle.rf_terms.specs.Kinds.{roles_of}
use Rattle.rf_terms.proofs.KindLaws.{four_roles}
use Rattle.rf_rules.specs.Instances.{AreCarriers}
use Rattle.rf_spares.specs.Harms.{harms_from}
use Rattle.rf_spares.specs.Searches.{site_of}
use Rattle.rf_spares.proofs.SearchLemmas.{any-front, gains-as, gains-next, gains-none, harms-last, harms-next}
use Rattle.std.proofs.lemmas.Bool.{and_left}
use Rattle.rf_spares.proofs.search.Search.+extend.Goals as goal
use Rattle.rf_spares.proofs.search.Search.+extend.Goals.{After-next-from, After-extend-arg-1}
use Rattle.rf_rules.proofs.TupleLaws.{AreCarriers-push, any-none}

pub returns-then-depth-roles : goal.returns-then-depth-roles
returns-then-depth-roles t c =
    let s = c.args.self.now in
    gains-as _ _ _ _ (λ f few. sym
    (harms-last (site_of s) s.ats.now s.must s.kind s.role (take c.args.depth c.args.others)
    (roles_of s.kind - 1 - c.args.depth) f (omega (arith, c.if-depth-roles.true, c.roles.ensures.value)))) c.judge.ensures

-- the first others
long : (t : ℕ) (c : After-next-from t) → length (take c.args.depth c.args.others) ≡ c.args.depth
long t c =
    let three : length c.args.others ≡ 3 = omega arith in
    length-take-le c.args.depth c.args.others (omega (arith, three, four_roles c.args.self.now.kind, c.requires.depth))

pub loop-carrier-init : goal.loop-carrier-init
loop-carrier-init t c =
    let s = c.args.self.now in
    gains-none _ _ (λ f. any-none _ _ (λ i low. let b = c.next-from.ensures.below i low in
    harms-last (site_of s) s.ats.now s.must s.kind s.role (take c.args.depth c.args.others ++ i ∷ []) _ f (omega (arith, b.0, long t c)) ∙ and_left _ _ b.1))

more : (t : ℕ) (c : After-extend-arg-1 t) → take (c.args.depth + 1) (set c.args.others c.args.depth c.loop-carrier.carrier) ≡ take c.args.depth c.args.others ++ c.loop-carrier.carrier ∷ []
more t c =
    let three : length c.args.others ≡ 3 = omega arith in
    take_more_set c.args.others c.args.depth c.loop-carrier.carrier (omega (arith, three, four_roles c.args.self.now.kind, c.requires.depth, c.if-depth-roles.false, c.roles.ensures.value))

pub extend-requires : goal.extend-requires
extend-requires t c =
    let s = c.args.self.now in
    let deep : c.args.depth + 1 + 1 ≤ roles_of s.kind = omega (arith, c.if-depth-roles.false, c.roles.ensures.value, c.requires.depth) in
    let push : AreCarriers s.ats.now (take c.args.depth c.args.others ++ c.loop-carrier.carrier ∷ []) =
    AreCarriers-push s.ats.now (take c.args.depth c.args.others) c.loop-carrier.carrier c.requires.taken (omega (arith, c.loop-carrier-test.true, c.next-from.ensures.within)) in
    (omega (arith, deep, c.decreases), (c.requires.ready, (deep, rw (more t c) push)))

pub loop-carrier-preserved : goal.loop-carrier-preserved
loop-carrier-preserved t c =
    let m = (goal.at.loop-carrier-preserved t c).After-extend-arg-1 in
    let s = c.args.self.now in
    let k = roles_of s.kind - 1 - (c.args.depth + 1) in
    gains-next _ _ _ (λ f d. harms_from (site_of s) s.ats.now s.must s.kind s.role (take c.args.depth c.args.others ++ d ∷ []) k f) _ c.loop-carrier.carrier
    c.loop-carrier.invariant c.extend.ensures (λ f. ap (λ u. harms_from (site_of s) s.ats.now s.must s.kind s.role u k f) (more t m))

pub returns : goal.returns
returns t c =
    let s = c.args.self.now in
    let m = (goal.at.returns t c).After-next-from in
    gains-as _ _ _ _ (λ f few.
    any-front _ _ (length s.ats.now) (omega (arith, c.loop-carrier.auto.carrier-end c.next-from.ensures.order, c.next-from.ensures.within))
    (λ i a b.
    let past = c.next-from.ensures.above i (omega (arith, a, c.loop-carrier-test.false)) b in
    harms-last (site_of s) s.ats.now s.must s.kind s.role (take c.args.depth c.args.others ++ i ∷ []) _ f (omega (arith, past.0, long t m)) ∙ and_left _ _ past.1)
    ∙ harms-next (site_of s) s.ats.now s.must s.kind s.role (take c.args.depth c.args.others) (roles_of s.kind - 1 - (c.args.depth + 1))
    (roles_of s.kind - 1 - c.args.depth) f (omega (arith, c.if-depth-roles.false, c.roles.ensures.value, c.requires.depth)))
    c.loop-carrier.invariant
