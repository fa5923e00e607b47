-- What is said of a show and what is said of its case.
use Rattle.std.specs.Prelude.{◌≡◌, ◌<◌, ◌↔◌, ℕ, List, All, length}
use Rattle.rf_terms.specs.Kinds.{roles_of}
use Rattle.rf_terms.specs.declared.kind.Kind.{Kind}
use Rattle.rf_log.specs.Case as case
use Rattle.rf_show.specs.Show.{ShowData}
use Rattle.rf_show.specs.Case.{case_of}
use Rattle.rf_rules.specs.Instances as show
use Rattle.rf_rules.specs.Plans as plans

-- carriers of a show in the roles of a kind are an instance of it exactly where they are one of the case
abbrev pub InstancesAgree : Type 0
InstancesAgree = (of : ShowData) (kind : Kind) (roles : List ℕ) → length roles ≡ roles_of kind
    → All (λ c. c < length of.carriers) roles → show.is_instance of kind roles ≡ case.is_instance (case_of of) kind roles

-- a list is a plan of a show exactly where it is one of the case
abbrev pub PlansAgree : Type 0
PlansAgree = (of : ShowData) (plan : List ℕ) → plans.IsPlan of plan ↔ case.IsPlan (case_of of) plan
