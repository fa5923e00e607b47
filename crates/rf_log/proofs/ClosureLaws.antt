-- A living box from which nothing more can be removed lies within every round.
use Rattle.std.proofs.Common.{◌≡◌, ℕ, zero, suc, List, arith, subst, IsTrue}
use Rattle.rf_terms.specs.declared.kind.Kind.{Kind}
use Rattle.rf_terms.specs.Kinds.{kinds}
use Rattle.rf_log.specs.declared.cond.Cond.{Cond}
use Rattle.rf_log.specs.Case.{Case, is_allowed}
use Rattle.rf_log.specs.Relations.{Meets, IsStruck, IsLiving, IsSettled, IsWithin, IsSole}
use Rattle.rf_log.specs.Closure.{Round}
use Rattle.rf_log.proofs.CaseLaws.{known_role, counts_length}

-- the one index of a wider box is the one of a narrower box that has any
pub sole-narrow : (a b : ℕ → ℕ → Type 0) (c k : ℕ) → IsWithin a b → (j : ℕ) × a c j → IsSole b c k → IsSole a c k
sole-narrow a b c k within some sole =
    let same : some.0 ≡ k = sole.1 some.0 (within c some.0 some.1) in
    (subst (λ (j : ℕ). a c j) same some.1, λ j here. sole.1 j (within c j here))

pub struck-narrow : (case : Case) (among : List Kind) (a b : ℕ → ℕ → Type 0) (c k : ℕ)
    → IsWithin a b → IsLiving case a → IsStruck case among b c k → IsStruck case among a c k
struck-narrow case among a b c k within living struck = record {
  kind = struck.kind;
  among = struck.among;
  roles = struck.roles;
  at = struck.at;
  is_instance = struck.is_instance;
  target = struck.target;
  here = struck.here;
  others = λ r has other. sole-narrow a b r (struck.at r) within
      (living r (omega (arith, counts_length case, known_role case struck.kind struck.roles r struck.is_instance has))) (struck.others r has other);
  breaks = struck.breaks;
}

pub within-round : (case : Case) (path : List Cond) (a : ℕ → ℕ → Type 0)
    → IsLiving case a → IsSettled case kinds a
    → ((c k : ℕ) → a c k → Meets case path c k × IsTrue (is_allowed case c k))
    → (n : ℕ) → IsWithin a (Round case path n)
within-round case path a living settled start zero = start
within-round case path a living settled start (suc n) =
    let before : IsWithin a (Round case path n) = within-round case path a living settled start n in
    λ c k here. (before c k here, λ alive struck. settled c k here (struck-narrow case kinds a (Round case path n) c k before living struck))
