use Rattle.std.proofs.Common.{◌≡◌, ◌∙◌, ◌<◌, List, [], Bool, length, get_or, ◌&&◌, not, sym, ap, subst}
use Rattle.std.proofs.lemmas.List.{get_or_read}
use Rattle.rf_domain.specs.Indices.{flag, between, outside}
use Rattle.rf_domain.specs.Sets.{size_of, sizes, has, without, AreCounts}
use Rattle.rf_domain.proofs.Bits.{and_idle}
use Rattle.rf_domain.proofs.SetsLaws.{known_carrier, sizes_set, has_set}
use Rattle.rf_domain.proofs.domains.Domains.keep_range.Goals as goal
use mathlib.Core.Bool.{not-not}

-- what the call leaves of the one set
record Left (c : goal.After-self-1) : Type 0 where
  known : c.args.carrier < length c.self.inside.sets.items
  read : c.index_mut.result.now ≡ get_or c.self.inside.sets.items c.args.carrier []

left : (c : goal.After-self-1) → Left c
left c =
    let sized : c.args.hi < size_of (sizes c.self.inside.sets.items) c.args.carrier =
    subst (λ (sets : List (List Bool)). c.args.hi < size_of (sizes sets) c.args.carrier) (sym c.self.view_is) c.requires.in_range in
    let known : c.args.carrier < length c.self.inside.sets.items = known_carrier c.self.inside.sets.items c.args.carrier c.args.hi sized in
    record { known = known; read = get_or_read c.self.inside.sets.items c.args.carrier c.index_mut.result.now known c.index_mut.ensures.value [] }

pub invariant_of-self : goal.invariant_of-self
invariant_of-self c =
    let at = left c in
    subst AreCounts (sym (sizes_set c.self.inside.sets.items c.args.carrier c.keep_range.new.self (c.keep_range.ensures.size ∙ ap length at.read))) c.self.invariant

pub returns-clause-sizes : goal.returns-clause-sizes
returns-clause-sizes c =
    let at = left c in
    sizes_set c.self.inside.sets.items c.args.carrier c.keep_range.new.self (c.keep_range.ensures.size ∙ ap length at.read) ∙ ap sizes c.self.view_is

pub returns-clause-has : goal.returns-clause-has
returns-clause-has c =
    let at = left c in
    let sets = c.self.inside.sets.items in
    has_set (λ old here. old && not here) and_idle sets c.args.carrier (outside c.args.lo c.args.hi) c.keep_range.new.self at.known
    (λ k. c.keep_range.ensures.flags k ∙ ap (λ b. flag c.index_mut.result.now k && b) (sym (not-not (between c.args.lo c.args.hi k)))
    ∙ ap (λ s. flag s k && not (outside c.args.lo c.args.hi k)) at.read)
    ∙ ap (λ s. without (has s) c.args.carrier (outside c.args.lo c.args.hi)) c.self.view_is
