-- A case that asks no more than another.
use Rattle.std.specs.Prelude.{◌≡◌, ℕ, ◌<◌, ◌≤◌, List, length, IsTrue}
use Rattle.rf_terms.specs.declared.kind.Kind.{Kind}
use Rattle.rf_log.specs.Case.{Case, IsPlan, carrier_of, is_allowed, is_instance, margin_of}

-- Case b is as tight as case a: the same carriers with the same channels, of which a allows each that b allows; what is an
-- instance of a is one of b, and b asks at least the same margin of it.
pub record IsTighter (a b : Case) : Type 0 where
  pub carriers : length a.carriers ≡ length b.carriers
  pub freqs : (c : ℕ) → c < length b.carriers → (carrier_of a c).freqs ≡ (carrier_of b c).freqs
  pub allowed : (c k : ℕ) → c < length b.carriers → IsTrue (is_allowed b c k) → IsTrue (is_allowed a c k)
  pub instances : (kind : Kind) (roles : List ℕ) → IsTrue (is_instance a kind roles) → IsTrue (is_instance b kind roles)
  pub margins : (kind : Kind) (roles : List ℕ) → IsTrue (is_instance b kind roles) → margin_of a kind roles ≤ margin_of b kind roles

abbrev pub TighterKeepsPlans : Type 0
TighterKeepsPlans = (a b : Case) (plan : List ℕ) → IsTighter a b → IsPlan b plan → IsPlan a plan
