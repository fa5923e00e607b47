-- A run over a source, a shelf and a sink in memory that never fail.
use Rattle.std.specs.Prelude.{◌≡◌, ℕ, Bool, List, Some, None}
use Rattle.rf_base.specs.Asks.{asks_in}
use Rattle.rf_base.specs.Input.{lines_of}
use Rattle.rf_base.specs.Shelf.{clean_file_of}
use Rattle.rf_base.specs.declared.clean.CleanShelf.{CleanShelf}
use Rattle.rf_session.specs.Fetches.{Outside, outside}
use Rattle.rf_session.specs.Run.{answered}
use Rattle.rf_session.specs.Top.{script, Headline}
use Rattle.rf_session.specs.Unfetched.{unfetched}

-- what a session meets that has such a shelf, and such a sink, which doesn't tell what was written
abbrev pub clean_outside : CleanShelf → Outside
clean_outside shelf = outside None (clean_file_of shelf.files.items) (λ name. 0) (Some (asks_in shelf.asks))

-- The session came to the headline, and no file that a line names was answered E11.
pub record HeadlineClean (before after : Outside) (bytes : List ℕ) (refusal : Bool) : Type 0 where
  pub headline : Headline before after bytes refusal
  pub fetched : (name : List ℕ) → unfetched name (answered (lines_of (script bytes))) headline.all.replies ≡ 0
