use Rattle.std.proofs.Common.{◌≡◌, ◌+◌, ◌++◌, ◌∷◌, [], ℕ, Bool, false, length, take, ap, sym, refl, ◌∙◌, arith}
use Rattle.std.specs.List.{list_any}
use Rattle.rf_show.specs.Query.{margin_of}
use Rattle.rf_rules.specs.Tuples.{upto}
use Rattle.rf_rules.specs.Instances.{is_broken, is_candidate}
use Rattle.rf_rules.specs.Plans.{breaks_from}
use Rattle.rf_rules.proofs.SearchLemmas.{broken-far, broken-near}
use Rattle.rf_rules.proofs.ReadyLemmas.{margin-taken, ready-lanes, taken-as, taken-more}
use Rattle.rf_rules.proofs.PlanLaws.{breaks-last, breaks-next}
use Rattle.rf_rules.proofs.search.Search.breaks_at_last.Goals as goal
use Rattle.rf_rules.proofs.search.Search.breaks_at_last.Goals.{Start, After-max-needs, After-stands}
use Rattle.rf_rules.proofs.TupleLaws.{any-zero, any-found, any-more}

-- an instance is broken with this carrier in the last role
abbrev test : Start → ℕ → Bool
test c k = breaks_from c.args.self.now.show.now c.args.self.now.ats.now c.args.self.now.kind (take c.args.depth c.args.roles ++ k ∷ []) 0

pub loop-carrier-init : goal.loop-carrier-init
loop-carrier-init c = any-zero (test (goal.at.loop-carrier-init c).Start)

pub bounds-self-carrier : goal.bounds-self-carrier
bounds-self-carrier c = omega (arith, ready-lanes c.args.self.now c.requires.ready, c.loop-carrier-test.true)

needs : (c : After-max-needs) → c.max-needs.result ≡ margin_of c.args.self.now.show.now c.args.self.now.kind (take c.args.depth c.args.roles ++ c.loop-carrier.carrier ∷ [])
needs c =
    c.max-needs.ensures ∙ margin-taken c.args.self.now c.args.roles c.args.depth c.loop-carrier.carrier c.floor-floor.result _ c.requires.ready (omega arith) c.requires.depth
    c.loop-carrier-test.true c.floor-floor.ensures

pub loop-carrier-preserved-then-distance-from : goal.loop-carrier-preserved-then-distance-from
loop-carrier-preserved-then-distance-from c =
    let m = (goal.at.loop-carrier-preserved-then-distance-from c).After-max-needs in
    let s = c.args.self.now in
    let t = take c.args.depth c.args.roles ++ c.loop-carrier.carrier ∷ [] in
    let far : is_broken s.show.now s.ats.now s.kind t ≡ false = broken-far s.show.now s.ats.now s.kind t
    (omega (arith, needs m, c.distance-distance.ensures, c.from.ensures, c.if-distance-from.true)) in
    any-more (test (goal.at.loop-carrier-preserved-then-distance-from c).Start) c.loop-carrier.carrier (c.loop-carrier.carrier + 1) (omega arith) c.loop-carrier.invariant
    (breaks-last s.show.now s.ats.now s.kind t ∙ far)

pub stands-requires-clause-taken : goal.stands-requires-clause-taken
stands-requires-clause-taken c =
    (taken-more c.args.self.now c.args.roles c.args.depth c.loop-carrier.carrier _ (omega arith) (omega (arith, c.requires.depth)) c.requires.taken c.loop-carrier-test.true refl).1

-- the carrier's instance is broken exactly where it is one
judged : (c : After-stands) → test (goal.at.After-stands c).Start c.loop-carrier.carrier ≡ c.stands.result
judged c =
    let m = (goal.at.After-stands c).After-max-needs in
    let s = c.args.self.now in
    let t = take c.args.depth c.args.roles ++ c.loop-carrier.carrier ∷ [] in
    let near : is_broken s.show.now s.ats.now s.kind t ≡ is_candidate s.show.now s.ats.now s.kind t =
    broken-near s.show.now s.ats.now s.kind t (omega (arith, needs m, c.distance-distance.ensures, c.from.ensures, c.if-distance-from.false)) in
    breaks-last s.show.now s.ats.now s.kind t ∙ near ∙ sym (c.stands.ensures ∙
    taken-as (λ u k. is_candidate s.show.now s.ats.now s.kind u) s.kind c.args.roles c.args.depth c.loop-carrier.carrier 0 0 (omega arith) (omega (arith, c.requires.depth)) refl)

pub loop-carrier-preserved : goal.loop-carrier-preserved
loop-carrier-preserved c =
    any-more (test (goal.at.loop-carrier-preserved c).Start) c.loop-carrier.carrier (c.loop-carrier.carrier + 1) (omega arith) c.loop-carrier.invariant
    (judged (goal.at.loop-carrier-preserved c).After-stands ∙ c.if-stands.false)

pub returns-then-stands : goal.returns-then-stands
returns-then-stands c =
    let s = c.args.self.now in
    let yes = any-found (test (goal.at.returns-then-stands c).Start) (length s.ats.now) c.loop-carrier.carrier c.loop-carrier-test.true
    (judged (goal.at.returns-then-stands c).After-stands ∙ c.if-stands.true) in
    sym (sym (breaks-next s.show.now s.ats.now s.kind (take c.args.depth c.args.roles) 0 1 refl) ∙ yes)

pub returns : goal.returns
returns c =
    let s = c.args.self.now in
    let end : c.loop-carrier.carrier ≡ length s.ats.now = omega arith in
    let q = test (goal.at.returns c).Start in
    sym (sym (breaks-next s.show.now s.ats.now s.kind (take c.args.depth c.args.roles) 0 1 refl) ∙ ap (λ n. list_any q (upto n)) (sym end) ∙ c.loop-carrier.invariant)
