-- The turns of a search: a branching, a side that is closed, and an end.
use Rattle.std.specs.Prelude.{ℕ, ◌<◌, List, Bool, true, length, IsTrue}
use Rattle.rf_terms.specs.declared.kind.Kind.{Kind}
use Rattle.rf_log.specs.declared.line.LogLine.{LogLine}
use Rattle.rf_log.specs.declared.line.LogLine.TheVariants.{Branch}
use Rattle.rf_log.specs.declared.line.Cut.TheVariants.{Fix}
use Rattle.rf_log.specs.Case.{Case, counts_of, count_of}
use Rattle.rf_log.specs.Walk.{left_side}
use Rattle.rf_log.specs.Solved.{Ending, IsSolved, IsHonest}
use Rattle.rf_domain.specs.Sets.{size_of}
use Rattle.rf_trail.specs.Trace.{box_of}
use Rattle.rf_propagate.specs.Laws.{IsQuiet, HasEveryKind, IsClosed}
use Rattle.rf_search.specs.declared.choice.Choice.{Choice}
use Rattle.rf_search.specs.declared.search.Search.{Search}
use Rattle.rf_search.specs.Out.{Leads, IsWritable}
use Rattle.rf_search.specs.State.{path_at}

-- a propagator of every kind and of bans
pub record IsWhole (kinds : List Kind) (bans : Bool) : Type 0 where
  pub every : HasEveryKind kinds
  pub asked : IsTrue bans

-- nothing more falls for any kind, and what is left lies within the closure of the path
pub record IsAtRest (case : Case) (search : Search) : Type 0 where
  pub kinds : List Kind
  pub every : HasEveryKind kinds
  pub quiet : IsQuiet case kinds true (box_of search.trail)
  pub closed : IsClosed case (path_at search) (box_of search.trail)

-- the search has ended: what was handed out since the output's first state is what a solver owes
pub record HasEnded {S : Type 0} (taken : S → LogLine → S → Type 0) (case : Case) (n : ℕ) (first now : S) (ending : Ending) : Type 0 where
  pub log : List LogLine
  pub leads : Leads taken first log now
  pub solved : IsSolved case n log ending

-- the branch line of a choice is honest, and has a text
pub record IsBranching (case : Case) (search : Search) (choice : Choice) : Type 0 where
  pub known : choice.carrier < length case.carriers
  pub low : choice.at < count_of case choice.carrier
  pub size : choice.at < size_of (counts_of case) choice.carrier
  pub honest : IsHonest case (path_at search) (left_side Fix choice.carrier choice.at)
  pub writable : IsWritable (length case.carriers) (Branch Fix choice.carrier choice.at)
