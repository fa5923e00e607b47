use Rattle.std.proofs.Common.{◌≡◌, ℕ, List, true, ◌∙◌, sym, ap, subst, length, ◌↔◌}
use Rattle.rf_domain.specs.Indices.{IsPadded, HasBitsWithin}
use Rattle.rf_domain.proofs.Lowest.{sized}
use Rattle.rf_domain.proofs.Within.{same_room, within_sets}
use Rattle.rf_domain.proofs.set.IndexSet.is_within.Goals as goal

pub are_within-requires : goal.are_within-requires
are_within-requires c =
    let size : c.other.inside.size ≡ c.self.inside.size =
    sym (sized c.other.inside.size c.other.inside.words.items c.args.other.now c.other.view_is) ∙ sym c.requires
    ∙ sized c.self.inside.size c.self.inside.words.items c.args.self.now c.self.view_is in
    ap length c.deref.ensures.value
    ∙ same_room c.self.inside.size c.self.inside.words.items c.other.inside.words.items c.self.invariant.padded
    (subst (λ (n : ℕ). IsPadded n c.other.inside.words.items) size c.other.invariant.padded)
    ∙ sym (ap length c.deref-2.ensures.value)

pub returns : goal.returns
returns c =
    within_sets c.self.inside.size c.other.inside.size c.self.inside.words.items c.other.inside.words.items c.args.self.now c.args.other.now
    c.self.invariant.padded c.self.view_is c.other.invariant.padded c.other.view_is c.are_within.result
    (subst (λ (ws : List ℕ). (c.are_within.result ≡ true) ↔ HasBitsWithin ws c.other.inside.words.items) c.deref.ensures.value
    (subst (λ (ws : List ℕ). (c.are_within.result ≡ true) ↔ HasBitsWithin c.deref.result.now ws) c.deref-2.ensures.value c.are_within.ensures))
