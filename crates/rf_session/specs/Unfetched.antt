-- How often a file was answered E11.
use Rattle.std.specs.Prelude.{◌≤◌, ◌+◌, ◌-◌, ◌^◌, ◌&&◌, min, ℕ, Bool, true, false, List, Option, Some, None, Result, Ok, Err, count_by}
use Rattle.std.specs.List.{zip}
use Rattle.std.specs.Str.{bytes_eq}
use Rattle.rf_base.specs.Script.{Line, short, long}
use Rattle.rf_text.specs.Commands.{command_of}
use Rattle.rf_text.specs.declared.command.Command.{Command}
use Rattle.rf_text.specs.declared.command.UnknownLine.{UnknownLine}
use Rattle.rf_session.specs.declared.reply.Code.TheVariants.{ShelfFault}
use Rattle.rf_session.specs.declared.reply.Reply.{Reply}
use Rattle.rf_session.specs.declared.reply.Reply.TheVariants.{Error}
use Rattle.rf_session.specs.Fetches.{Outside}
use Rattle.rf_session.specs.Shows.{file_of}

abbrev pub is_file : List ℕ → Option (List ℕ) → Bool
is_file name None = false
is_file name (Some file) = bytes_eq file name

abbrev pub asks_of : List ℕ → Result Command UnknownLine → Bool
asks_of name (Ok command) = is_file name (file_of command)
asks_of name (Err unknown) = false

-- whether a line names this file
abbrev pub names : List ℕ → Line → Bool
names name (short bytes) = asks_of name (command_of bytes)
names name long = false

-- whether a reply is E11
abbrev pub is_shelf_fault : Reply → Bool
is_shelf_fault (Error ShelfFault) = true
is_shelf_fault _ = false

-- how many of these lines name this file and are answered E11
abbrev pub unfetched : List ℕ → List Line → List Reply → ℕ
unfetched name lines replies = count_by (λ l. names name l.0 && is_shelf_fault l.1) (zip lines replies)

-- No file was answered E11 more often than its count rose. A count stands still at its type's end.
abbrev pub IsBounded : Outside → Outside → List Line → List Reply → Type 0
IsBounded before after lines replies = (name : List ℕ) → min (before.faults name + unfetched name lines replies) (2 ^ 64 - 1) ≤ after.faults name
