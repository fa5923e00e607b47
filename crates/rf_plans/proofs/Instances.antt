-- An instance of a show is one of its case.
use Rattle.std.proofs.Common.{◌≡◌, ◌<◌, ◌∙◌, ℕ, Bool, true, false, ◌&&◌, not, List, [], ◌∷◌, length, arith, refl, ap, sym, Some, None, All, ◌==◌, nat_lt, eq-eqb, lt-ltb}
use Rattle.std.specs.declared.option.Option.{Option}
use Rattle.std.specs.List.{list_all, list_any}
use Rattle.std.proofs.lemmas.List.Sums.{list_all-from_AllPass}
use Rattle.rf_terms.proofs.KindLaws.{four_roles, two_roles}
use Rattle.rf_terms.specs.Kinds.{order_of, roles_of}
use Rattle.rf_terms.specs.declared.kind.Kind.{Kind}
use Rattle.rf_log.specs.Case as case
use Rattle.rf_log.specs.Case.{are_distinct, are_together, stands_before}
use Rattle.rf_show.specs.Case.{Agree, case_of}
use Rattle.rf_show.specs.Query.{are_joined}
use Rattle.rf_show.specs.Show.{ShowData}
use Rattle.rf_rules.specs.Instances.{is_distinct, is_instance, stands_in_order}

distinct_same : (t : List ℕ) → is_distinct t ≡ are_distinct t
distinct_same [] = refl
distinct_same (c ∷ t) = ap (λ b. not (list_any (λ d. d == c) t) && b) (distinct_same t)

order_same : (o : Option (ℕ × ℕ)) (t : List ℕ) → stands_in_order o t ≡ stands_before t o
order_same None t = refl
order_same (Some p) t = refl

-- carriers that are not distinct are no instance of either
tested : (distinct order joined together : Bool) → (distinct ≡ true → together ≡ joined) → (distinct && order && joined) ≡ (true && true && distinct && order && together)
tested true order joined together h = ap (λ b. order && b) (sym (h refl))
tested false order joined together h = refl

pub instance_same : (show : ShowData) → Agree show (case_of show) → (kind : Kind) (roles : List ℕ) → length roles ≡ roles_of kind → All (λ c. c < length show.carriers) roles
    → is_instance show kind roles ≡ case.is_instance (case_of show) kind roles
unfolding is_instance
instance_same show agree kind roles n low =
    let count : (length roles == roles_of kind) ≡ true = eq-eqb _ _ n in
    let carriers = agree.carriers in
    let known : list_all (λ c. nat_lt c (length (case_of show).carriers)) roles ≡ true =
    rw carriers (list_all-from_AllPass (λ c. nat_lt c (length show.carriers)) roles (λ k d inside. lt-ltb _ _ (low k d inside))) in
    let together : are_distinct roles ≡ true → are_together (case_of show) roles ≡ are_joined show (roles_of kind) roles =
    λ h. agree.together roles low h (omega (arith, n, two_roles kind)) (omega (arith, n, four_roles kind)) ∙ ap (λ size. are_joined show size roles) n in
    ap (λ b. b && stands_in_order (order_of kind) roles && are_joined show (roles_of kind) roles) (distinct_same roles)
    ∙ ap (λ b. are_distinct roles && b && are_joined show (roles_of kind) roles) (order_same (order_of kind) roles)
    ∙ tested (are_distinct roles) (stands_before roles (order_of kind)) (are_joined show (roles_of kind) roles) (are_together (case_of show) roles) together
    ∙ sym (ap (λ b. b && true && are_distinct roles && stands_before roles (order_of kind) && are_together (case_of show) roles) count)
    ∙ sym (ap (λ b. (length roles == roles_of kind) && b && are_distinct roles && stands_before roles (order_of kind) && are_together (case_of show) roles) known)
