-- What the words of the command line ask for.
use Rattle.std.specs.Prelude.{ℕ, List, codes, map, String}
use Rattle.std.specs.Io.KnownBytes.{Appends}
use Rattle.std.specs.String.{string_bytes}
use Rattle.std.specs.declared.alloc.Global.{Global}
use Rattle.std.specs.declared.option.Option.{Option}
use Rattle.rf_words.specs.Words.{asked_by}
use Rattle.rf_words.specs.declared.asked.Asked.{Asked}
use Rattle.rf_base.specs.Piece.{AppendsPrefix}
use Rattle.rf_base.specs.declared.status.Status.{Status}
use Rattle.rf_base.specs.declared.status.Status.TheVariants.{Done, Refused, Words, Read, Write, Shelf, Memory, Long}

-- what the words of the command line ask for
abbrev pub asks : List (String Global) → Option Asked
asks words = asked_by (map string_bytes words)

-- what words come to that run no command: the line `error usage`, or a part of it where the sink or memory failed
abbrev pub Usage : Status → Option (List ℕ) → Option (List ℕ) → Type 0
Usage Words before after = Appends before after (codes "error usage\n")
Usage Write before after = AppendsPrefix before after (codes "error usage\n")
Usage Memory before after = AppendsPrefix before after (codes "error usage\n")
Usage Done before after = ⊥
Usage Refused before after = ⊥
Usage Read before after = ⊥
Usage Shelf before after = ⊥
Usage Long before after = ⊥
