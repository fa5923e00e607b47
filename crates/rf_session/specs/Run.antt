-- Runs of a machine that answers lines.
use Rattle.std.specs.Prelude.{◌≡◌, ◌==◌, ◌||◌, ◌+◌, ◌-◌, ◌^◌, ◌≤◌, ◌⊎◌, min, not, ℕ, Bool, false, if◌then◌else◌, List, [], ◌∷◌, length, take, slice_index, codes, filter, count_by}
use Rattle.std.specs.List.{list_any}
use Rattle.std.specs.Str.{bytes_eq}
use Rattle.std.specs.declared.option.Option.{Option}
use Rattle.std.specs.Io.KnownBytes.{Appends}
use Rattle.rf_base.specs.Script.{Line, short, long}
use Rattle.rf_session.specs.declared.machine.Stop.{Stop}
use Rattle.rf_session.specs.declared.reply.Code.TheVariants.{LongLine}
use Rattle.rf_session.specs.declared.reply.Reply.{Reply}
use Rattle.rf_session.specs.declared.reply.Reply.TheVariants.{Error}
use Rattle.rf_session.specs.Reply.{refusal_text, text_of, is_refusal, texts, any_refusal}
use Rattle.rf_session.specs.Fetches.{Fetched, absent, Outside, MayBring, fails_at, Brought, KeptCounts}

-- the line that ends a session
abbrev pub is_quit : Line → Bool
is_quit (short bytes) = bytes_eq bytes (codes "quit")
is_quit long = false

abbrev pub quits : List Line → Bool
quits lines = list_any is_quit lines

-- the lines up to the first `quit`, which is one of them
abbrev pub up_to_quit : List Line → List Line
up_to_quit [] = []
up_to_quit (line ∷ lines) = line ∷ (if is_quit line then [] else up_to_quit lines)

-- an empty line or a comment
abbrev pub is_passed : Line → Bool
is_passed (short bytes) = (length bytes == 0) || (slice_index bytes 0 == 35)
is_passed long = false

-- the lines that get a reply
abbrev pub answered : List Line → List Line
answered lines = filter (λ line. not (is_passed line)) (up_to_quit lines)

-- one step of a session, where `steps` says it of the lines that reach the machine: a long line doesn't, and is refused
abbrev pub Step : {M : Type 0} → (M → List ℕ → Fetched → Reply → M → Type 0) → M → Line → Fetched → Reply → M → Type 0
Step steps old (short bytes) fetched reply new = steps old bytes fetched reply new
Step steps old long fetched reply new = (fetched ≡ absent) × (reply ≡ Error LongLine) × (new ≡ old)

-- what may be written of the reply to a line before the session stops, where `cuts` says it of the lines that reach the machine
abbrev pub Cut : {M : Type 0} → (M → Stop → List ℕ → Fetched → List ℕ → Type 0) → M → Stop → Line → Fetched → List ℕ → Type 0
Cut cuts state stop (short bytes) fetched part = cuts state stop bytes fetched part
Cut cuts state stop long fetched part = (n : ℕ) × (part ≡ take n (refusal_text LongLine))

-- the machine may give these replies to these lines and their fetches, one step after another
abbrev pub Run : {M : Type 0} → (M → Line → Fetched → Reply → M → Type 0) → M → List Line → List Fetched → List Reply → M → Type 0
Run step old [] [] [] new = new ≡ old
Run step old (line ∷ lines) (fetched ∷ fetches) (reply ∷ replies) new =
    (mid : _) × step old line fetched reply mid × Run step mid lines fetches replies new
Run step old [] [] (reply ∷ replies) new = ⊥
Run step old [] (fetched ∷ fetches) replies new = ⊥
Run step old (line ∷ lines) [] replies new = ⊥
Run step old (line ∷ lines) (fetched ∷ fetches) [] new = ⊥

-- These lines were answered: the sink gained the replies of a run, and `refusal` says whether one of them is a refusal.
pub record Answered {M : Type 0} (step : M → Line → Fetched → Reply → M → Type 0) (old new : M) (before after : Outside)
    (lines : List Line) (refusal : Bool) : Type 0 where
  pub fetches : List Fetched
  pub replies : List Reply
  pub run : Run step old lines fetches replies new
  pub brought : Brought before after fetches
  pub kept : KeptCounts before after fetches
  pub wrote : Appends before.written after.written (texts replies)
  pub refusals : refusal ≡ any_refusal replies

-- One line was answered.
pub record Replied {M : Type 0} (step : Fetched → Reply → M → Type 0) (new : M) (before after : Outside) (refusal : Bool) : Type 0 where
  pub fetched : Fetched
  pub reply : Reply
  pub took : step fetched reply new
  pub brought : Brought before after (fetched ∷ [])
  pub kept : KeptCounts before after (fetched ∷ [])
  pub wrote : Appends before.written after.written (text_of reply)
  pub refuses : refusal ≡ is_refusal reply

-- The sink gained such a reply, and `refusal` says whether it is a refusal.
pub record Writes (replies : Reply → Type 0) (before after : Option (List ℕ)) (refusal : Bool) : Type 0 where
  pub reply : Reply
  pub took : replies reply
  pub wrote : Appends before after (text_of reply)
  pub refuses : refusal ≡ is_refusal reply

-- The sink gained such a part of a reply, or nothing.
pub record WritesPart (parts : List ℕ → Type 0) (before after : Option (List ℕ)) : Type 0 where
  pub part : List ℕ
  pub may : (part ≡ []) ⊎ parts part
  pub wrote : Appends before after part

-- A reply was cut short, or never begun.
pub record IsCut (cuts : Fetched → List ℕ → Type 0) (before after : Outside) : Type 0 where
  pub fetched : Fetched
  pub part : List ℕ
  pub may : (part ≡ []) ⊎ cuts fetched part
  pub told : MayBring before.file fetched
  pub bound : (name : List ℕ) → min (before.faults name + count_by (fails_at name) (fetched ∷ [])) (2 ^ 64 - 1) ≤ after.faults name
  pub wrote : Appends before.written after.written part
