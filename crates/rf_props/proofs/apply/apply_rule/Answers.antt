use Rattle.std.proofs.Common.{sym, subst, ℕ, List, [], ◌∷◌, get_or, length, take, ◌<◌, All}
use Rattle.rf_terms.specs.Kinds.{roles_of}
use Rattle.rf_problem.specs.Problem.{case_of}
use Rattle.rf_problem.proofs.CaseLaws.{count_is}
use Rattle.rf_props.proofs.ApplyLemmas.{four, known_roles}
use Rattle.rf_props.proofs.apply.apply_rule.Goals as goal

pub is_ruled_out-requires-clause-known : goal.is_ruled_out-requires-clause-known
is_ruled_out-requires-clause-known c =
    let n = length c.args.problem.now.carriers in
    let all = c.args.all.now in
    let places : List ℕ = get_or all 0 0 ∷ get_or all 1 0 ∷ get_or all 2 0 ∷ get_or all 3 0 ∷ [] in
    subst (λ (m : ℕ). All (λ x. x < n) (take m places)) (sym c.roles.ensures.value)
    (known_roles (case_of c.args.problem.now) n (roles_of c.args.kind) c.args.target all places (count_is c.args.problem.now) (four c.args.all.now c.told-all)
    (c.are_roles.ensures.0 c.if-not-are_roles.false))
