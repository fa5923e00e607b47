use Rattle.std.proofs.Common.{◌≡◌, ◌+◌, ◌-◌, ◌<◌, ◌++◌, ◌∷◌, [], ℕ, Bool, length, take, ap, sym, ◌∙◌, arith, w64}
use Rattle.std.specs.List.{list_any}
use Rattle.std.proofs.lemmas.Int.{to_z-of_z}
use Rattle.rf_terms.specs.Kinds.{roles_of}
use Rattle.rf_rules.specs.Tuples.{upto}
use Rattle.rf_rules.specs.Plans.{breaks_from}
use Rattle.rf_rules.proofs.ReadyLemmas.{taken-as, taken-more}
use Rattle.rf_rules.proofs.PlanLaws.{breaks-hopeless, breaks-next}
use Rattle.rf_rules.proofs.search.Search.+breaks.Goals as goal
use Rattle.rf_rules.proofs.search.Search.+breaks.Goals.{Start, After-breaks}
use Rattle.rf_rules.proofs.TupleLaws.{any-zero, any-found, any-more}

-- an instance is broken with this carrier in the next role
abbrev test : (t : ℕ) → Start t → ℕ → Bool
test t c k = breaks_from c.args.self.now.show.now c.args.self.now.ats.now c.args.self.now.kind (take c.args.depth c.args.roles ++ k ∷ []) (roles_of c.args.self.now.kind - c.args.depth - 1)

pub loop-carrier-init : goal.loop-carrier-init
loop-carrier-init t c = any-zero (test t (goal.at.loop-carrier-init t c).Start)

pub loop-carrier-preserved-then-is_hopeless : goal.loop-carrier-preserved-then-is_hopeless
loop-carrier-preserved-then-is_hopeless t c =
    let s = c.args.self.now in
    any-more (test t (goal.at.loop-carrier-preserved-then-is_hopeless t c).Start) c.loop-carrier.carrier (c.loop-carrier.carrier + 1) (omega arith) c.loop-carrier.invariant
    (breaks-hopeless s.show.now s.ats.now s.kind (take c.args.depth c.args.roles) c.loop-carrier.carrier (roles_of s.kind - c.args.depth - 1) c.if-is_hopeless.ensures)

pub breaks-requires : goal.breaks-requires
breaks-requires t c =
    let s = c.args.self.now in
    let deep : c.args.depth + 1 < roles_of s.kind = omega (arith, ap length c.requires.ready.coefficients, c.if-depth-self.false, c.requires.depth) in
    let next = taken-more s c.args.roles c.args.depth c.loop-carrier.carrier _ (omega arith) (omega (arith, c.requires.depth)) c.requires.taken c.loop-carrier-test.true
    (to_z-of_z w64 c.with-next.result (record { sfits = c.with-next.type_inv }) ∙ c.with-next.ensures) in
    (omega (arith, deep, c.decreases), (c.requires.ready, (deep, next)))

-- what the next roles' search says of the carrier
judged : (t : ℕ) (c : After-breaks t) → test t (goal.at.After-breaks t c).Start c.loop-carrier.carrier ≡ c.breaks.result
judged t c =
    let s = c.args.self.now in
    sym (c.breaks.ensures ∙ taken-as (breaks_from s.show.now s.ats.now s.kind) s.kind c.args.roles c.args.depth c.loop-carrier.carrier _ _ (omega arith) c.requires.depth (omega arith))

pub loop-carrier-preserved : goal.loop-carrier-preserved
loop-carrier-preserved t c =
    any-more (test t (goal.at.loop-carrier-preserved t c).Start) c.loop-carrier.carrier (c.loop-carrier.carrier + 1) (omega arith) c.loop-carrier.invariant
    (judged t (goal.at.loop-carrier-preserved t c).After-breaks ∙ c.if-breaks.false)

pub returns-then-breaks : goal.returns-then-breaks
returns-then-breaks t c =
    let s = c.args.self.now in
    let yes = any-found (test t (goal.at.returns-then-breaks t c).Start) (length s.ats.now) c.loop-carrier.carrier c.loop-carrier-test.true
    (judged t (goal.at.returns-then-breaks t c).After-breaks ∙ c.if-breaks.true) in
    sym
    (sym (breaks-next s.show.now s.ats.now s.kind (take c.args.depth c.args.roles) (roles_of s.kind - c.args.depth - 1) (roles_of s.kind - c.args.depth) (omega (arith, c.requires.depth))) ∙ yes)

pub returns : goal.returns
returns t c =
    let s = c.args.self.now in
    let end : c.loop-carrier.carrier ≡ length s.ats.now = omega arith in
    let q = test t (goal.at.returns t c).Start in
    sym (sym (breaks-next s.show.now s.ats.now s.kind (take c.args.depth c.args.roles) (roles_of s.kind - c.args.depth - 1) (roles_of s.kind - c.args.depth)
    (omega (arith, c.requires.depth))) ∙ ap (λ n. list_any q (upto n)) (sym end) ∙ c.loop-carrier.invariant)
