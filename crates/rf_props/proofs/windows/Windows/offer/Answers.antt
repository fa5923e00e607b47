use Rattle.std.proofs.Common.{◌<◌, length}
use Rattle.std.proofs.lemmas.List.Elements.{All-same}
use Rattle.rf_props.proofs.StrikeLemmas.{known_insert, small_roles}
use Rattle.rf_props.proofs.windows.Windows.offer.Goals as goal

pub margin-margin-requires-clause-in_range : goal.margin-margin-requires-clause-in_range
margin-margin-requires-clause-in_range c =
    let s = c.args.self.now in
    All-same (λ x. x < length s.problem.now.carriers) _ _ c.with_target-all.ensures (known_insert _ c.args.others.now s.place s.target c.requires.known c.requires.target)

pub is_instance-requires-clause-known : goal.is_instance-requires-clause-known
is_instance-requires-clause-known c =
    let s = c.args.self.now in
    All-same (λ x. x < length s.problem.now.carriers) _ _ c.with_target-all.ensures (known_insert _ c.args.others.now s.place s.target c.requires.known c.requires.target)

pub padded-requires-clause-small : goal.padded-requires-clause-small
padded-requires-clause-small c =
    let s = c.args.self.now in
    small_roles (length s.problem.now.carriers) _
    (All-same (λ x. x < length s.problem.now.carriers) _ _ c.with_target-all.ensures (known_insert _ c.args.others.now s.place s.target c.requires.known c.requires.target))
    c.requires.few
