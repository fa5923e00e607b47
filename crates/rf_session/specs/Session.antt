-- How a session ends.
use Rattle.std.specs.Prelude.{◌≡◌, ◌⊎◌, ◌&&◌, ◌+◌, ◌-◌, ◌^◌, ◌≤◌, min, not, ℕ, Bool, true, false, List, [], ◌∷◌, ◌++◌, length, All, count_by}
use Rattle.std.specs.Io.KnownBytes.{Appends}
use Rattle.rf_base.specs.Input.{Input, is_long, lines_of}
use Rattle.rf_base.specs.Script.{Line, ended_lines}
use Rattle.rf_base.specs.declared.status.Status.{Status}
use Rattle.rf_base.specs.declared.status.Status.TheVariants.{Done, Refused, Words, Read, Write, Shelf, Memory, Long}
use Rattle.rf_session.specs.declared.machine.Stop.{Stop}
use Rattle.rf_session.specs.declared.machine.Stop.TheVariants.{Write as ByWrite, Memory as ByMemory}
use Rattle.rf_session.specs.Fetches.{Fetched, Outside, MayBring, fails_at}
use Rattle.rf_session.specs.declared.reply.Reply.{Reply}
use Rattle.rf_session.specs.Reply.{texts}
use Rattle.rf_session.specs.Run.{answered, quits, Run, Answered}

-- The input was answered to its end or to `quit`.
pub record Finishes {M : Type 0} (step : M → Line → Fetched → Reply → M → Type 0) (old new : M) (before after : Outside) (input : Input) (refusal : Bool) : Type 0 where
  pub all : Answered step old new before after (answered (lines_of input)) refusal
  pub whole : (is_long input && not (quits (lines_of input))) ≡ false

-- The input is too long: all lines that count were answered, and none is `quit`.
pub record RunsOver {M : Type 0} (step : M → Line → Fetched → Reply → M → Type 0) (old new : M) (before after : Outside) (input : Input) : Type 0 where
  pub refusal : Bool
  pub all : Answered step old new before after (answered (lines_of input)) refusal
  pub long : is_long input ≡ true
  pub no_quit : quits (lines_of input) ≡ false

-- The source failed: exactly the lines whose line feed was taken were answered, and none is `quit`.
pub record ReadsPart {M : Type 0} (step : M → Line → Fetched → Reply → M → Type 0) (old new : M) (before after : Outside) (input rest : Input) : Type 0 where
  pub taken : List ℕ
  pub refusal : Bool
  pub bytes : input.bytes ≡ taken ++ rest.bytes
  pub within : input.limit ≡ length taken + rest.limit
  pub all : Answered step old new before after (answered (ended_lines taken)) refusal
  pub no_quit : quits (ended_lines taken) ≡ false

-- what may be written after the whole replies: at most a part of the reply to the next line
abbrev pub Breaks : (Line → Fetched → List ℕ → Type 0) → List Line → Fetched → List ℕ → Type 0
Breaks cuts [] fetched part = part ≡ []
Breaks cuts (line ∷ lines) fetched part = (part ≡ []) ⊎ cuts line fetched part

-- The session broke off: some lines were answered, and then at most a part of a reply was written.
pub record BreaksOff {M : Type 0} (step : M → Line → Fetched → Reply → M → Type 0) (cuts : M → Line → Fetched → List ℕ → Type 0) (old : M) (before after : Outside) (input : Input) : Type 0 where
  pub done : List Line
  pub undone : List Line
  pub lines : answered (lines_of input) ≡ done ++ undone
  pub mid : M
  pub fetches : List Fetched
  pub replies : List Reply
  pub run : Run step old done fetches replies mid
  pub last : Fetched
  pub part : List ℕ
  pub broke : Breaks (cuts mid) undone last part
  pub told : All (MayBring before.file) (fetches ++ last ∷ [])
  pub bound : (name : List ℕ) → min (before.faults name + count_by (fails_at name) (fetches ++ last ∷ [])) (2 ^ 64 - 1) ≤ after.faults name
  pub wrote : Appends before.written after.written (texts replies ++ part)

-- what a status says of the input before the session and of the rest of it after
abbrev pub Ends : {M : Type 0} → (M → Line → Fetched → Reply → M → Type 0) → (M → Stop → Line → Fetched → List ℕ → Type 0) →
    Status → M → M → Outside → Outside → Input → Input → Type 0
Ends step cuts Done old new before after input rest = Finishes step old new before after input false
Ends step cuts Refused old new before after input rest = Finishes step old new before after input true
Ends step cuts Words old new before after input rest = ⊥
Ends step cuts Read old new before after input rest = ReadsPart step old new before after input rest
Ends step cuts Write old new before after input rest = BreaksOff step (λ state. cuts state ByWrite) old before after input
Ends step cuts Shelf old new before after input rest = ⊥
Ends step cuts Memory old new before after input rest = BreaksOff step (λ state. cuts state ByMemory) old before after input
Ends step cuts Long old new before after input rest = RunsOver step old new before after input
