-- Laws over the definitions.
use Rattle.std.specs.Prelude.{◌≡◌, ◌≤◌, ℕ, Bool, true, List, IsTrue, length, nat_lt}
use Rattle.std.specs.List.{list_all, list_any}
use Rattle.rf_log.specs.Case.{Case, IsPlan, are_distinct, has_just, is_allowed, is_among}
use Rattle.rf_log.specs.Sets.{sets_that}
use Rattle.rf_log.specs.Box.{Box}
use Rattle.rf_log.specs.Relations.{members, IsLiving, IsSettled, IsWithin, Meets}
use Rattle.rf_log.specs.Closure.{Closure}
use Rattle.rf_terms.specs.Kinds.{kinds}
use Rattle.rf_log.specs.Walk.{verdict_of}
use Rattle.rf_log.specs.declared.cond.Cond.{Cond}
use Rattle.rf_log.specs.declared.line.LogLine.{LogLine}
use Rattle.rf_log.specs.declared.verdict.Verdict.TheVariants as verdict

-- no list is a plan where the walk closes the tree
abbrev pub ClosedHasNoPlan : Type 0
ClosedHasNoPlan = (case : Case) (log : List LogLine) → verdict_of case log ≡ verdict.Closed → (plan : List ℕ) → ¬ IsPlan case plan

-- a living box of allowed indices that meet the path, from which no kind removes anything, lies within the closure
abbrev pub SettledIsClosed : Type 0
SettledIsClosed = (case : Case) (path : List Cond) (has : Box)
    → IsLiving case (members has) → IsSettled case kinds (members has)
    → ((c k : ℕ) → members has c k → Meets case path c k × IsTrue (is_allowed case c k))
    → IsWithin (members has) (Closure case path) × IsLiving case (Closure case path)

-- a test of lists of carriers looks only at which carriers there are, and at how many
pub record IsOfSets (test : List ℕ → Bool) : Type 0 where
  pub same : (s t : List ℕ) → length s ≡ length t → list_all (is_among t) s ≡ true → list_all (is_among s) t ≡ true → test s ≡ test t

-- among the sets that pass a test is the one of these carriers exactly where they pass it
abbrev pub SetsAreTested : Type 0
SetsAreTested = (test : List ℕ → Bool) (count : ℕ) (carriers : List ℕ) → IsOfSets test
    → list_all (λ c. nat_lt c count) carriers ≡ true → are_distinct carriers ≡ true → 2 ≤ length carriers → length carriers ≤ 4
    → list_any (has_just carriers) (sets_that test count) ≡ test carriers
