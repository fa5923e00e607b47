-- What one turn of a session does.
use Rattle.std.specs.Prelude.{◌≡◌, ◌<◌, ℕ, true, false, List, [], ◌∷◌}
use Rattle.std.specs.Io.KnownBytes.{Appends}
use Rattle.std.specs.declared.option.Option.{Option}
use Rattle.rf_base.specs.declared.line_reader.LineReader.{LineReader}
use Rattle.rf_base.specs.Input.{TakesLine, TakesPart, IsTooLong}
use Rattle.rf_base.specs.Piece.{AppendsPrefix}
use Rattle.rf_base.specs.Reader.{input_of}
use Rattle.rf_base.specs.Script.{Line}
use Rattle.rf_base.specs.Told.{WhereTold}
use Rattle.rf_session.specs.declared.machine.Stop.{Stop}
use Rattle.rf_session.specs.declared.session.Turn.{Turn}
use Rattle.rf_session.specs.declared.session.Turn.TheVariants.{Went, Quit, Stopped, End, TooLong, ReadFault}
use Rattle.rf_session.specs.Fetches.{Fetched, Outside}
use Rattle.rf_session.specs.declared.reply.Code.TheVariants.{LongLine}
use Rattle.rf_session.specs.declared.reply.Reply.{Reply}
use Rattle.rf_session.specs.Reply.{refusal_text}
use Rattle.rf_session.specs.Run.{is_quit, is_passed, answered, Answered, IsCut}

-- what a turn does with its line
abbrev pub Handles : {M : Type 0} → (M → Line → Fetched → Reply → M → Type 0) → (M → Stop → Line → Fetched → List ℕ → Type 0) →
    Turn → M → M → Outside → Outside → Line → Type 0
Handles step cuts (Went refusal) old new before after line = (is_quit line ≡ false) × Answered step old new before after (answered (line ∷ [])) refusal
Handles step cuts (Quit refusal) old new before after line = (is_quit line ≡ true) × Answered step old new before after (answered (line ∷ [])) refusal
Handles step cuts (Stopped stop) old new before after line = (is_passed line ≡ false) × IsCut (cuts old stop line) before after
Handles step cuts End old new before after line = ⊥
Handles step cuts TooLong old new before after line = ⊥
Handles step cuts ReadFault old new before after line = ⊥

-- what a turn does with a line that is too long
abbrev pub RefusesLong : Turn → Option (List ℕ) → Option (List ℕ) → Type 0
RefusesLong (Went refusal) before after = (refusal ≡ true) × Appends before after (refusal_text LongLine)
RefusesLong (Quit refusal) before after = ⊥
RefusesLong (Stopped stop) before after = AppendsPrefix before after (refusal_text LongLine)
RefusesLong End before after = ⊥
RefusesLong TooLong before after = ⊥
RefusesLong ReadFault before after = ⊥

-- the reader gave this line
abbrev pub Gave : Line → LineReader → LineReader → Option (List ℕ) → Option (List ℕ) → Type 0
Gave line old new before after = WhereTold before after (λ x y. TakesLine line (input_of old x) (input_of new y))

-- what a turn does: to the machine, to the sink and the shelf, to the reader and what is left in its source
abbrev pub Turns : {M : Type 0} → (M → Line → Fetched → Reply → M → Type 0) → (M → Stop → Line → Fetched → List ℕ → Type 0) →
    Turn → M → M → Outside → Outside → LineReader → LineReader → Option (List ℕ) → Option (List ℕ) → Type 0
Turns step cuts (Went refusal) m m' o o' r r' s s' = (line : Line) × Gave line r r' s s' × Handles step cuts (Went refusal) m m' o o' line
Turns step cuts (Quit refusal) m m' o o' r r' s s' = (line : Line) × Gave line r r' s s' × Handles step cuts (Quit refusal) m m' o o' line
Turns step cuts (Stopped stop) m m' o o' r r' s s' = (line : Line) × Gave line r r' s s' × Handles step cuts (Stopped stop) m m' o o' line
Turns step cuts End m m' o o' r r' s s' = Answered step m m' o o' [] false × WhereTold s s' (λ x y. (input_of r x).bytes ≡ [])
Turns step cuts TooLong m m' o o' r r' s s' = Answered step m m' o o' [] false × WhereTold s s' (λ x y. IsTooLong (input_of r x))
Turns step cuts ReadFault m m' o o' r r' s s' = Answered step m m' o o' [] false × WhereTold s s' (λ x y. TakesPart (input_of r x) (input_of r' y))

-- a turn that goes on leaves fewer bytes that count
abbrev pub GoesOn : Turn → ℕ → ℕ → Type 0
GoesOn (Went refusal) old new = new < old
GoesOn (Quit refusal) old new = Unit {0}
GoesOn (Stopped stop) old new = Unit {0}
GoesOn End old new = Unit {0}
GoesOn TooLong old new = Unit {0}
GoesOn ReadFault old new = Unit {0}
