use Rattle.std.proofs.Common.{◌≡◌, ◌∙◌, ◌<◌, List, [], Bool, length, get_or, ◌||◌, sym, ap, subst}
use Rattle.std.proofs.lemmas.List.{get_or_read}
use Rattle.rf_domain.specs.Indices.{flag, between}
use Rattle.rf_domain.specs.Sets.{size_of, sizes, has, with_all, AreCounts}
use Rattle.rf_domain.proofs.SetsLaws.{known_carrier, sizes_set, has_set}
use Rattle.rf_domain.proofs.domains.Domains.put_back.Goals as goal
use mathlib.Core.Bool.{or-false}

-- what the call leaves of the one set
record Left (c : goal.After-self-1) : Type 0 where
  known : c.args.carrier < length c.self.inside.sets.items
  read : c.index_mut.result.now ≡ get_or c.self.inside.sets.items c.args.carrier []

left : (c : goal.After-self-1) → Left c
left c =
    let sized : c.args.hi < size_of (sizes c.self.inside.sets.items) c.args.carrier =
    subst (λ (sets : List (List Bool)). c.args.hi < size_of (sizes sets) c.args.carrier) (sym c.self.view_is) c.requires.in_range in
    let known : c.args.carrier < length c.self.inside.sets.items = known_carrier c.self.inside.sets.items c.args.carrier c.args.hi sized in
    record { known = known; read = get_or_read c.self.inside.sets.items c.args.carrier c.index_mut.result.now known c.index_mut.ensures.value [] }

pub invariant_of-self : goal.invariant_of-self
invariant_of-self c =
    let at = left c in
    subst AreCounts (sym (sizes_set c.self.inside.sets.items c.args.carrier c.put_back.new.self (c.put_back.ensures.size ∙ ap length at.read))) c.self.invariant

pub returns-clause-sizes : goal.returns-clause-sizes
returns-clause-sizes c =
    let at = left c in
    sizes_set c.self.inside.sets.items c.args.carrier c.put_back.new.self (c.put_back.ensures.size ∙ ap length at.read) ∙ ap sizes c.self.view_is

pub returns-clause-has : goal.returns-clause-has
returns-clause-has c =
    let at = left c in
    let sets = c.self.inside.sets.items in
    has_set (λ old here. old || here) or-false sets c.args.carrier (between c.args.lo c.args.hi) c.put_back.new.self at.known
    (λ k. c.put_back.ensures.flags k ∙ ap (λ s. flag s k || between c.args.lo c.args.hi k) at.read)
    ∙ ap (λ s. with_all (has s) c.args.carrier (between c.args.lo c.args.hi)) c.self.view_is
