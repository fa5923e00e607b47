-- Replies and their texts.
use Rattle.std.specs.Prelude.{ℕ, Bool, true, false, List, ◌++◌, codes, map}
use Rattle.std.specs.List.{concat, list_any}
use Rattle.rf_show.specs.declared.refusal.Refusal.{Refusal}
use Rattle.rf_show.specs.declared.refusal.Refusal.TheVariants as refusal
use Rattle.rf_session.specs.declared.reply.Code.{Code}
use Rattle.rf_session.specs.declared.reply.Code.TheVariants.{UnknownLine, Unknown, Taken, Number, InUse, NoStep, NoFrequency, Locked, Full, BadFile as BadFileCode, ShelfFault, LongLine}
use Rattle.rf_session.specs.declared.reply.Reply.{Reply}
use Rattle.rf_session.specs.declared.reply.Reply.TheVariants.{Accepted, Text, Error, BadFile}

-- the code of a refused edit
abbrev pub code_of : Refusal → Code
code_of refusal.Unknown = Unknown
code_of refusal.Taken = Taken
code_of refusal.Number = Number
code_of refusal.InUse = InUse
code_of refusal.NoFrequency = NoFrequency
code_of refusal.Locked = Locked
code_of refusal.Full = Full

-- the word of a code
abbrev pub code_word : Code → List ℕ
code_word UnknownLine = codes "E1"
code_word Unknown = codes "E2"
code_word Taken = codes "E3"
code_word Number = codes "E4"
code_word InUse = codes "E5"
code_word NoStep = codes "E6"
code_word NoFrequency = codes "E7"
code_word Locked = codes "E8"
code_word Full = codes "E9"
code_word BadFileCode = codes "E10"
code_word ShelfFault = codes "E11"
code_word LongLine = codes "E12"

-- the reply line of a refusal
abbrev pub refusal_text : Code → List ℕ
refusal_text code = codes "error " ++ code_word code ++ codes "\n"

-- the bytes of a reply
abbrev pub text_of : Reply → List ℕ
text_of Accepted = codes "ok\n"
text_of (Text text) = text
text_of (Error code) = refusal_text code
text_of (BadFile text) = text

abbrev pub is_refusal : Reply → Bool
is_refusal Accepted = false
is_refusal (Text text) = false
is_refusal (Error code) = true
is_refusal (BadFile text) = true

abbrev pub texts : List Reply → List ℕ
texts replies = concat (map text_of replies)

abbrev pub any_refusal : List Reply → Bool
any_refusal replies = list_any is_refusal replies
