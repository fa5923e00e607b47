-- The closure of a path by rounds of removals.
use Rattle.std.specs.Prelude.{ℕ, zero, suc, List, IsTrue}
use Rattle.rf_terms.specs.Kinds.{kinds}
use Rattle.rf_log.specs.declared.cond.Cond.{Cond}
use Rattle.rf_log.specs.Case.{Case, is_allowed}
use Rattle.rf_log.specs.Relations.{Meets, IsLiving, IsStruck}

-- the box after n rounds. It starts from the allowed indices that meet the path. While no set is empty, a round removes,
-- all at once, each index that breaks an instance whose other carriers have one index each
abbrev pub Round : Case → List Cond → ℕ → ℕ → ℕ → Type 0
Round case path zero c k = Meets case path c k × IsTrue (is_allowed case c k)
Round case path (suc n) c k = Round case path n c k × (IsLiving case (Round case path n) → ¬ IsStruck case kinds (Round case path n) c k)

-- what every round leaves, which is where the rounds end
abbrev pub Closure : Case → List Cond → ℕ → ℕ → Type 0
Closure case path c k = (n : ℕ) → Round case path n c k
