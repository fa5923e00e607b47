use Rattle.std.proofs.Common.{ℕ, sym, ◌∙◌, subst, true≢false}
use Rattle.rf_problem.specs.Problem.{case_of}
use Rattle.rf_propagate.specs.Applied.{AreRolesIn}
use Rattle.rf_props.proofs.ApplyLemmas.{roles_in, carriers_in, rest_zero}
use Rattle.rf_props.proofs.apply.are_roles.Goals as goal

pub returns-then-not-are_carriers : goal.returns-then-not-are_carriers
returns-then-not-are_carriers c = (
  λ e. absurd (true≢false (sym e)),
  λ roles.
      let case = case_of c.args.problem.now in
      let all = c.args.all.now in
      let same = subst (λ (n : ℕ). AreRolesIn case n all c.args.target) (sym c.roles-count.ensures.value) roles in
      absurd (true≢false (sym (c.are_carriers.ensures.1 (carriers_in case c.roles-count.result c.args.target all same)) ∙ c.if-not-are_carriers.true)),
)

pub returns : goal.returns
returns c = (
  λ e.
      let case = case_of c.args.problem.now in
      let all = c.args.all.now in
      subst (λ (n : ℕ). AreRolesIn case n all c.args.target) c.roles-count.ensures.value
      (roles_in case c.roles-count.result c.args.target all c.if-target-count.false (c.are_carriers.ensures.0 c.if-not-are_carriers.false) (c.are_zero.ensures.0 e)),
  λ roles.
      let case = case_of c.args.problem.now in
      let all = c.args.all.now in
      let same = subst (λ (n : ℕ). AreRolesIn case n all c.args.target) (sym c.roles-count.ensures.value) roles in
      c.are_zero.ensures.1 (rest_zero case c.roles-count.result c.args.target all same),
)
