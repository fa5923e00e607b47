-- What a demonstration writes.
use Rattle.std.specs.Prelude.{◌≡◌, ℕ, Bool, List, ◌++◌, codes, decimal, length, map, count_by}
use Rattle.std.specs.Io.KnownBytes.{Appends}
use Rattle.std.specs.declared.option.Option.{Option}
use Rattle.rf_base.specs.Piece.{AppendsPrefix}
use Rattle.rf_base.specs.Script.{short}
use Rattle.rf_base.specs.declared.status.Status.{Status}
use Rattle.rf_base.specs.declared.status.Status.TheVariants.{Done, Refused, Words, Read, Write, Shelf, Memory, Long}
use Rattle.rf_demo.specs.Lines.{demo_lines}
use Rattle.rf_editor.specs.History.{History, first_history}
use Rattle.rf_rules.specs.Analyses.{analysed}
use Rattle.rf_session.specs.declared.demo.Tally.{Tally}
use Rattle.rf_session.specs.declared.reply.Reply.{Reply}
use Rattle.rf_session.specs.Fetches.{Fetched}
use Rattle.rf_session.specs.Reply.{is_refusal}
use Rattle.rf_session.specs.Run.{Run, Step}
use Rattle.rf_session.specs.Shows.{Steps}

-- The session's machine answered these lines, and so many of its replies are refusals.
pub record Played (lines : List (List ℕ)) (old : History) (refused : ℕ) (new : History) : Type 0 where
  pub fetches : List Fetched
  pub replies : List Reply
  pub run : Run (Step Steps) old (map short lines) fetches replies new
  pub counted : refused ≡ count_by is_refusal replies

-- What the session's machine comes to over the script of a number: how many lines that has, how many of them were refused, and how many
-- carriers and conflicts the last show has.
pub record IsTally (seed count : ℕ) (tally : Tally) : Type 0 where
  pub last : History
  pub played : Played (demo_lines seed count) first_history tally.refused last
  pub lines : tally.lines ≡ length (demo_lines seed count)
  pub carriers : tally.carriers ≡ length last.show.carriers
  pub conflicts : tally.conflicts ≡ (analysed last.show).total

abbrev pub tally_text : Tally → List ℕ
tally_text tally =
    codes "lines " ++ decimal tally.lines ++ codes "\nrefused " ++ decimal tally.refused
    ++ codes "\ncarriers " ++ decimal tally.carriers ++ codes "\nconflicts " ++ decimal tally.conflicts ++ codes "\n"

-- The four lines of a demonstration.
abbrev pub Demonstrated : ℕ → ℕ → List ℕ → Type 0
Demonstrated seed count text = (tally : Tally) × IsTally seed count tally × (text ≡ tally_text tally)

-- one line was answered by the session's machine; `refusal` says whether it was refused
abbrev pub Plays : List ℕ → History → Bool → History → Type 0
Plays line old refusal new = (fetched : Fetched) × (reply : Reply) × Steps old line fetched reply new × (refusal ≡ is_refusal reply)

-- The lines were written.
pub record DemoWrites (seed count : ℕ) (before after : Option (List ℕ)) : Type 0 where
  pub text : List ℕ
  pub is : Demonstrated seed count text
  pub wrote : Appends before after text

-- The sink failed at them.
pub record DemoWritesPart (seed count : ℕ) (before after : Option (List ℕ)) : Type 0 where
  pub text : List ℕ
  pub is : Demonstrated seed count text
  pub wrote : AppendsPrefix before after text

-- how a demonstration ends
abbrev pub Demonstrates : ℕ → ℕ → Status → Option (List ℕ) → Option (List ℕ) → Type 0
Demonstrates seed count Done before after = DemoWrites seed count before after
Demonstrates seed count Refused before after = ⊥
Demonstrates seed count Words before after = ⊥
Demonstrates seed count Read before after = ⊥
Demonstrates seed count Write before after = DemoWritesPart seed count before after
Demonstrates seed count Shelf before after = ⊥
Demonstrates seed count Memory before after = after ≡ before
Demonstrates seed count Long before after = ⊥
