-- What one line of a show file comes to.
use Rattle.std.proofs.Common.{◌≡◌, ◌≢◌, ℕ, List, [], ◌∷◌, Some, Result, Ok, Err, ap, sym}
use Rattle.std.specs.Result.{IfOk, IfErr}
use Rattle.rf_show.specs.declared.edit.Edit.{Edit}
use Rattle.rf_show.specs.Show.{ShowData}
use Rattle.rf_text.specs.declared.command.Command.{Command}
use Rattle.rf_session.specs.declared.file_fault.FileFault.{FileFault}
use Rattle.rf_session.specs.declared.file_fault.FileFault.TheVariants as file
use Rattle.rf_session.specs.declared.file_fault.FileFault.TheVariants.{Memory as NoMemory}
use Rattle.rf_session.specs.declared.reply.Code.TheVariants as code
use Rattle.rf_session.specs.declared.show_file.LineFault.{LineFault}
use Rattle.rf_session.specs.declared.show_file.LineFault.TheVariants.{Refused, Shelf, Memory}
use Rattle.rf_session.specs.Fetches.{fetch_of, of_file, Got, Outside, Brought, Obeyed}
use Rattle.rf_session.specs.ShowFile.{command_read, made_by, IfLine, ReadsCommand}
use Rattle.rf_session.specs.Shows.{file_of}
use Rattle.rf_session.proofs.FetchLaws.{Obeyed-file}

-- less holds too
pub IfLine-weaker : {X : Type 0} (r : Result X LineFault) (new : ShowData) (P Q : Result ShowData LineFault → Type 0) →
    ((read : Result ShowData LineFault) → P read → Q read) → IfLine r new P → IfLine r new Q
IfLine-weaker (Ok done) new P Q weaker holds = weaker _ holds
IfLine-weaker (Err (Refused code)) new P Q weaker holds = weaker _ holds
IfLine-weaker (Err Shelf) new P Q weaker holds = weaker _ holds
IfLine-weaker (Err Memory) new P Q weaker holds = tt

-- the edit of a file was made, or the file gave none
pub edit_made : {X : Type 0} (r : Result X LineFault) (old new : ShowData) (edit whole : Result Edit FileFault) → IfOk edit (λ e. whole ≡ Ok e) →
    IfErr edit (λ why. why ≢ NoMemory → whole ≡ Err why) → IfLine r new (λ read. read ≡ made_by old edit) → IfLine r new (λ read. read ≡ made_by old whole)
edit_made {X = X} r old new (Ok e) whole gives fails made = rw gives made
edit_made {X = X} r old new (Err why) whole gives fails made = by_why why fails made
  where
    failed : (cause : FileFault) → cause ≢ NoMemory → (cause ≢ NoMemory → whole ≡ Err cause) → IfLine r new (λ read. read ≡ made_by old (Err cause)) →
        IfLine r new (λ read. read ≡ made_by old whole)
    failed cause other is made = rw (is other) made

    no_memory : (q : Result X LineFault) → IfLine q new (λ read. read ≡ Err Memory) → IfLine q new (λ read. read ≡ made_by old whole)
    no_memory (Ok done) made = absurd cc
    no_memory (Err (Refused code)) made = absurd cc
    no_memory (Err Shelf) made = absurd cc
    no_memory (Err Memory) made = tt

    by_why : (cause : FileFault) → (cause ≢ NoMemory → whole ≡ Err cause) → IfLine r new (λ read. read ≡ made_by old (Err cause)) →
        IfLine r new (λ read. read ≡ made_by old whole)
    by_why NoMemory is made = no_memory r made
    by_why file.Shelf is made = failed file.Shelf (λ same. cc) is made
    by_why file.Large is made = failed file.Large (λ same. cc) is made
    by_why file.Toml is made = failed file.Toml (λ same. cc) is made
    by_why (file.Profile number field) is made = failed (file.Profile number field) (λ same. cc) is made
    by_why file.Points is made = failed file.Points (λ same. cc) is made
    by_why (file.Record number field) is made = failed (file.Record number field) (λ same. cc) is made
    by_why file.Many is made = failed file.Many (λ same. cc) is made

-- a command that names a file
pub command_fetched : {X : Type 0} (r : Result X LineFault) (old new : ShowData) (command named : Command) (name : List ℕ) (got : Got) (before after : Outside) →
    command ≡ named → file_of named ≡ Some name → IfLine r new (λ read. read ≡ command_read old named got) →
    Brought before after (of_file name got ∷ []) → ((other : List ℕ) → other ≢ name → after.faults other ≡ before.faults other) →
    IfLine r new (λ read. Obeyed (λ fetched. ReadsCommand old command fetched read) before after)
command_fetched r old new command named name got before after is asks says brought others =
    IfLine-weaker r new (λ read. read ≡ command_read old named got) _
    (λ read same. rw is (Obeyed-file (λ fetched. ReadsCommand old named fetched read) before after name got
    (got, ap (λ file. fetch_of file got) (sym asks), same) brought others)) says
