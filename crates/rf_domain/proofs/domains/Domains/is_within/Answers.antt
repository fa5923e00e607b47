use Rattle.std.proofs.Common.{◌≡◌, ◌∙◌, ◌<◌, ℕ, List, [], Bool, length, get_or, sym, ap, arith, true≢false}
use Rattle.std.proofs.lemmas.List.{get_or_read}
use Rattle.rf_domain.specs.Sets.{sizes}
use Rattle.rf_domain.proofs.Within.{known_other, same_size, one_within}
use Rattle.rf_domain.proofs.domains.Domains.is_within.Goals.{After-index-in-loop-carrier}
use Rattle.rf_domain.proofs.domains.Domains.is_within.Goals as goal

-- the two sets that are compared are those of the carrier
record AreRead (sets others : List (List Bool)) (carrier : ℕ) (set other : List Bool) : Type 0 where
  same : sizes sets ≡ sizes others
  is : set ≡ get_or sets carrier []
  other_is : other ≡ get_or others carrier []

read : (c : After-index-in-loop-carrier) → AreRead c.args.self.now c.args.others.now c.loop-carrier.carrier c.index.result.now c.index-in-loop-carrier.result.now
read c =
    let known : c.loop-carrier.carrier < length c.self.inside.sets.items = omega arith in
    let known_view : c.loop-carrier.carrier < length c.args.self.now = omega (arith, ap length c.self.view_is) in
    let other_known : c.loop-carrier.carrier < length c.others.inside.sets.items =
    omega (arith, known_other c.args.self.now c.args.others.now c.loop-carrier.carrier c.requires known_view, ap length c.others.view_is) in
    record {
      same = c.requires;
      is = get_or_read c.self.inside.sets.items c.loop-carrier.carrier c.index.result.now known c.index.ensures []
          ∙ ap (λ sets. get_or sets c.loop-carrier.carrier []) c.self.view_is;
      other_is = get_or_read c.others.inside.sets.items c.loop-carrier.carrier c.index-in-loop-carrier.result.now other_known c.index-in-loop-carrier.ensures []
          ∙ ap (λ sets. get_or sets c.loop-carrier.carrier []) c.others.view_is;
    }

pub is_within-requires : goal.is_within-requires
is_within-requires c =
    let both = read c in
    same_size c.args.self.now c.args.others.now c.loop-carrier.carrier c.index.result.now c.index-in-loop-carrier.result.now both.same both.is both.other_is

pub returns-then-not-is_within : goal.returns-then-not-is_within
returns-then-not-is_within c = (
  λ wrong. absurd (true≢false (sym wrong)),
  λ within.
      let both = read ((goal.at.returns-then-not-is_within c).After-index-in-loop-carrier) in
      sym c.if-not-is_within.true ∙ c.is_within.ensures.1
      (one_within c.args.self.now c.args.others.now c.loop-carrier.carrier c.index.result.now c.index-in-loop-carrier.result.now within both.is both.other_is),
)
