-- The loop of a session.
use Rattle.std.proofs.Common.{◌≡◌, ◌⊎◌, ◌&&◌, ℕ, Bool, true, false, List, [], ◌∷◌, ◌++◌, All, take, refl, sym, ◌∙◌, inr, subst, arith, append_assoc, length-append, ◌||◌}
use Rattle.std.specs.Prelude.{not, filter, if◌then◌else◌}
use Rattle.std.proofs.lemmas.List.Elements.{All-append, All-cons, All-nil}
use Rattle.std.specs.declared.option.Option.{Option}
use Rattle.rf_base.specs.declared.line_reader.LineReader.{LineReader}
use Rattle.rf_base.specs.declared.status.Status.{Status}
use Rattle.rf_base.specs.declared.status.Status.TheVariants.{Done, Refused}
use Rattle.rf_base.specs.Input.{Input, lines_of, is_long}
use Rattle.rf_base.specs.Reader.{input_of}
use Rattle.rf_base.specs.Script.{Line, long, ended_lines}
use Rattle.rf_base.specs.Shelf.{Ask}
use Rattle.rf_base.specs.Told.{WhereTold}
use Rattle.rf_base.proofs.ByteLaws.{Appends-then}
use Rattle.rf_base.proofs.InputLaws.{GoesTo-takes, IsBeyond-too_long}
use Rattle.rf_base.proofs.ScriptLaws.{ended_lines-none}
use Rattle.rf_base.proofs.ToldLaws.{WhereTold-same, WhereTold-then, WhereTold-weaker}
use Rattle.rf_session.specs.declared.machine.Stop.{Stop}
use Rattle.rf_session.specs.declared.session.Turn.{Turn}
use Rattle.rf_session.specs.declared.session.Turn.TheVariants.{Went, Quit, Stopped, End, TooLong, ReadFault}
use Rattle.rf_session.specs.Fetches.{Fetched, absent, Outside, outside, MayBring, Brought}
use Rattle.rf_session.specs.declared.reply.Code.TheVariants.{LongLine}
use Rattle.rf_session.specs.declared.reply.Reply.{Reply}
use Rattle.rf_session.specs.declared.reply.Reply.TheVariants.{Error}
use Rattle.rf_session.specs.Reply.{refusal_text}
use Rattle.rf_session.specs.Run.{is_quit, is_passed, up_to_quit, answered, quits, Step, Cut, Answered, Replied}
use Rattle.rf_session.specs.Session.{Finishes, RunsOver, ReadsPart, BreaksOff, Ends}
use Rattle.rf_session.specs.Turn.{Handles, RefusesLong, Gave, Turns}
use Rattle.rf_session.proofs.FetchLaws.{MayBring-same, bound_then, count_by-append, AppendsAsks-none, Brought-absent}
use Rattle.rf_session.proofs.Follows.{Follows, Follows-begin, Follows-line}
use Rattle.rf_session.proofs.Runs.{answered-quit, quits-quit, Answered-then, Answered-none, Answered-one, Answered-still}

-- What a session has done so far.
pub record Serving {M : Type 0} (step : M → Line → Fetched → Reply → M → Type 0) (old now : M) (before after : Outside)
    (r0 r : LineReader) (s0 s : Option (List ℕ)) (refusal : Bool) : Type 0 where
  pub done : List Line
  pub all : Answered step old now before after done refusal
  pub told : WhereTold s0 s (λ x y. Follows done (input_of r0 x) (input_of r y))

pub Serving-begin : {M : Type 0} (step : M → Line → Fetched → Reply → M → Type 0) (m : M) (o : Outside) (r : LineReader) (s : Option (List ℕ)) →
    Serving step m m o o r r s s false
Serving-begin step m o r s = record {
  done = [];
  all = Answered-none step m o;
  told = WhereTold-same s _ (λ x. Follows-begin (input_of r x));
}

pub Serving-more : {M : Type 0} (step : M → Line → Fetched → Reply → M → Type 0) (cuts : M → Stop → Line → Fetched → List ℕ → Type 0) (m0 m m' : M)
    (o0 o o' : Outside) (r0 r r' : LineReader) (s0 s s' : Option (List ℕ)) (refusal again : Bool) →
    Serving step m0 m o0 o r0 r s0 s refusal → Turns step cuts (Went again) m m' o o' r r' s s' →
    Serving step m0 m' o0 o' r0 r' s0 s' (refusal || again)
Serving-more step cuts m0 m m' o0 o o' r0 r r' s0 s s' refusal again so_far (line, gave, (other, one)) = record {
  done = so_far.done ++ answered (line ∷ []);
  all = Answered-then step m0 m m' o0 o o' so_far.done (answered (line ∷ [])) refusal again so_far.all one;
  told = WhereTold-then s0 s s' _ _ _ so_far.told gave (λ x y z follows takes.
      Follows-line so_far.done line (input_of r0 x) (input_of r y) (input_of r' z) follows takes other);
}

not_whole : (long : Bool) → (long && not true) ≡ false
not_whole true = refl
not_whole false = refl

pub ends_quit : {M : Type 0} (step : M → Line → Fetched → Reply → M → Type 0) (cuts : M → Stop → Line → Fetched → List ℕ → Type 0) (m0 m m' : M)
    (o0 o o' : Outside) (r0 r r' : LineReader) (s0 s s' : Option (List ℕ)) (refusal again : Bool) →
    Serving step m0 m o0 o r0 r s0 s refusal → Turns step cuts (Quit again) m m' o o' r r' s s' →
    WhereTold s0 s' (λ x z. Finishes step m0 m' o0 o' (input_of r0 x) (refusal || again))
ends_quit step cuts m0 m m' o0 o o' r0 r r' s0 s s' refusal again so_far (line, gave, (quit, one)) =
    WhereTold-then s0 s s' _ _ _ so_far.told gave (λ x y z follows takes.
    let goes = GoesTo-takes line (input_of r y) (input_of r' z) takes in
    let all : answered (lines_of (input_of r0 x)) ≡ so_far.done ++ answered (line ∷ []) =
    rw (follows.lines, goes.lines, answered-quit line (lines_of (input_of r' z)) quit) refl in
    let ended : quits (lines_of (input_of r0 x)) ≡ true = rw (follows.quit, goes.lines) (quits-quit line (lines_of (input_of r' z)) quit) in
    record {
      all = rw all (Answered-then step m0 m m' o0 o o' so_far.done (answered (line ∷ [])) refusal again so_far.all one);
      whole = rw ended (not_whole (is_long (input_of r0 x)));
    })

pub ends_over : {M : Type 0} (step : M → Line → Fetched → Reply → M → Type 0) (cuts : M → Stop → Line → Fetched → List ℕ → Type 0) (m0 m m' : M)
    (o0 o o' : Outside) (r0 r r' : LineReader) (s0 s s' : Option (List ℕ)) (refusal : Bool) →
    Serving step m0 m o0 o r0 r s0 s refusal → Turns step cuts TooLong m m' o o' r r' s s' →
    WhereTold s0 s' (λ x z. RunsOver step m0 m' o0 o' (input_of r0 x))
ends_over step cuts m0 m m' o0 o o' r0 r r' s0 s s' refusal so_far (none, too_long) =
    WhereTold-then s0 s s' _ _ _ so_far.told too_long (λ x y z follows long.
    let beyond = IsBeyond-too_long (input_of r y) long in
    let all : answered (lines_of (input_of r0 x)) ≡ so_far.done ++ [] = rw (follows.lines, beyond.lines) refl in
    record {
      refusal = refusal;
      all = Answered-still step m0 m m' o0 o o' so_far.done _ refusal so_far.all none all;
      long = follows.long ∙ beyond.long;
      no_quit = rw (follows.quit, beyond.lines) refl;
    })

pub ends_read : {M : Type 0} (step : M → Line → Fetched → Reply → M → Type 0) (cuts : M → Stop → Line → Fetched → List ℕ → Type 0) (m0 m m' : M)
    (o0 o o' : Outside) (r0 r r' : LineReader) (s0 s s' : Option (List ℕ)) (refusal : Bool) →
    Serving step m0 m o0 o r0 r s0 s refusal → Turns step cuts ReadFault m m' o o' r r' s s' →
    WhereTold s0 s' (λ x z. ReadsPart step m0 m' o0 o' (input_of r0 x) (input_of r' z))
ends_read step cuts m0 m m' o0 o o' r0 r r' s0 s s' refusal so_far (none, part) =
    WhereTold-then s0 s s' _ _ _ so_far.told part (λ x y z follows takes.
    let adds = follows.adds takes.not_ended takes.raw in
    let no_line = ended_lines-none takes.raw takes.no_feed in
    let all : answered (ended_lines (follows.taken ++ takes.raw)) ≡ so_far.done ++ [] = rw (adds.lines, no_line) refl in
    record {
      taken = follows.taken ++ takes.raw;
      refusal = refusal;
      bytes = rw (follows.bytes, takes.bytes) (sym (append_assoc follows.taken takes.raw _));
      within = simp length-append (omega (arith, follows.within, takes.limit));
      all = Answered-still step m0 m m' o0 o o' so_far.done _ refusal so_far.all none all;
      no_quit = rw (adds.quit, no_line) refl;
    })

-- the next line, whose reply was cut short, and those after it
next_lines : (line : Line) (rest : List Line) → is_passed line ≡ false → (undone : List Line) × (answered (line ∷ rest) ≡ line ∷ undone)
next_lines line rest other = (filter (λ l. not (is_passed l)) (if is_quit line then [] else up_to_quit rest), rw other refl)

-- one fetch more
told_more : (before mid : Outside) (fetches : List Fetched) (last : Fetched) → Brought before mid fetches → MayBring mid.file last →
    All (MayBring before.file) (fetches ++ last ∷ [])
told_more before mid fetches last brought may =
    let one : All (MayBring before.file) (last ∷ []) =
    All-cons (MayBring before.file) last [] (MayBring-same before.file mid.file brought.same last may) (All-nil (MayBring before.file)) in
    All-append (MayBring before.file) fetches (last ∷ []) brought.told one

pub ends_stopped : {M : Type 0} (step : M → Line → Fetched → Reply → M → Type 0) (cuts : M → Stop → Line → Fetched → List ℕ → Type 0) (m0 m m' : M)
    (o0 o o' : Outside) (r0 r r' : LineReader) (s0 s s' : Option (List ℕ)) (refusal : Bool) (found stop : Stop) → found ≡ stop →
    Serving step m0 m o0 o r0 r s0 s refusal → Turns step cuts (Stopped found) m m' o o' r r' s s' →
    WhereTold s0 s' (λ x z. BreaksOff step (λ state. cuts state stop) m0 o0 o' (input_of r0 x))
ends_stopped step cuts m0 m m' o0 o o' r0 r r' s0 s s' refusal found stop is so_far (line, gave, (other, cut)) =
    WhereTold-then s0 s s' _ _ _ so_far.told gave (λ x y z follows takes.
    let goes = GoesTo-takes line (input_of r y) (input_of r' z) takes in
    let next = next_lines line (lines_of (input_of r' z)) other in
    record {
      done = so_far.done;
      undone = line ∷ next.0;
      lines = rw (follows.lines, goes.lines, next.1) refl;
      mid = m;
      fetches = so_far.all.fetches;
      replies = so_far.all.replies;
      run = so_far.all.run;
      last = cut.fetched;
      part = cut.part;
      broke = let P : Stop → Type 0 = λ by. (cut.part ≡ []) ⊎ cuts m by line cut.fetched cut.part in subst P is cut.may;
      told = told_more o0 o so_far.all.fetches cut.fetched so_far.all.brought cut.told;
      bound = λ name. rw count_by-append (bound_then (o0.faults name) (o.faults name) (o'.faults name) _ _ (so_far.all.brought.bound name) (cut.bound name));
      wrote = Appends-then o0.written o.written o'.written _ _ _ so_far.all.wrote cut.wrote refl;
    })

-- the status of a session that was answered to its end
pub Ends-finished : {M : Type 0} (step : M → Line → Fetched → Reply → M → Type 0) (cuts : M → Stop → Line → Fetched → List ℕ → Type 0) (old new : M)
    (before after : Outside) (input rest : Input) (refusal : Bool) → Finishes step old new before after input refusal →
    Ends step cuts (if refusal then Refused else Done) old new before after input rest
Ends-finished step cuts old new before after input rest true finishes = finishes
Ends-finished step cuts old new before after input rest false finishes = finishes

-- what a turn does that read a line and handled it
pub Turns-handled : {M : Type 0} (step : M → Line → Fetched → Reply → M → Type 0) (cuts : M → Stop → Line → Fetched → List ℕ → Type 0) (turn : Turn) (m m' : M)
    (o o' : Outside) (r r' : LineReader) (s s' : Option (List ℕ)) (line : Line) → Gave line r r' s s' →
    Handles step cuts turn m m' o o' line → Turns step cuts turn m m' o o' r r' s s'
Turns-handled step cuts (Went refusal) m m' o o' r r' s s' line gave handles = (line, gave, handles)
Turns-handled step cuts (Quit refusal) m m' o o' r r' s s' line gave handles = (line, gave, handles)
Turns-handled step cuts (Stopped stop) m m' o o' r r' s s' line gave handles = (line, gave, handles)
Turns-handled step cuts End m m' o o' r r' s s' line gave handles = absurd handles
Turns-handled step cuts TooLong m m' o o' r r' s s' line gave handles = absurd handles
Turns-handled step cuts ReadFault m m' o o' r r' s s' line gave handles = absurd handles

-- what a turn does with a line that is too long
pub Handles-long : {M : Type 0} (steps : M → List ℕ → Fetched → Reply → M → Type 0) (cuts : M → Stop → List ℕ → Fetched → List ℕ → Type 0)
    (turn : Turn) (m : M) (c c' : Option (List ℕ)) (file : List ℕ → Option (Option (List ℕ))) (faults : List ℕ → ℕ) (asked : Option (List Ask)) →
    RefusesLong turn c c' → Handles (Step steps) (Cut cuts) turn m m (outside c file faults asked) (outside c' file faults asked) long
Handles-long steps cuts (Went refusal) m c c' file faults asked refuses = (
  refl,
  Answered-one (Step steps) m m _ _ long refusal refl record {
    fetched = absent;
    reply = Error LongLine;
    took = (refl, refl, refl);
    brought = Brought-absent (outside c file faults asked) (outside c' file faults asked) (λ name. refl) (λ name. refl) (AppendsAsks-none asked);
    kept = λ name none. refl;
    wrote = refuses.1;
    refuses = refuses.0;
  },
)
Handles-long steps cuts (Quit refusal) m c c' file faults asked refuses = absurd refuses
Handles-long steps cuts (Stopped stop) m c c' file faults asked refuses = (
  refl,
  record {
    fetched = absent;
    part = take refuses.count (refusal_text LongLine);
    may = inr (refuses.count, refl);
    told = tt;
    bound = λ name. omega arith;
    wrote = refuses.grew;
  },
)
Handles-long steps cuts End m c c' file faults asked refuses = absurd refuses
Handles-long steps cuts TooLong m c c' file faults asked refuses = absurd refuses
Handles-long steps cuts ReadFault m c c' file faults asked refuses = absurd refuses

pub ends_answered : {M : Type 0} (step : M → Line → Fetched → Reply → M → Type 0) (cuts : M → Stop → Line → Fetched → List ℕ → Type 0) (m0 m' : M)
    (o0 o' : Outside) (r0 r' : LineReader) (s0 s' : Option (List ℕ)) (refusal : Bool) (status : Status) →
    status ≡ (if refusal then Refused else Done) → WhereTold s0 s' (λ x z. Finishes step m0 m' o0 o' (input_of r0 x) refusal) →
    WhereTold s0 s' (λ x z. Ends step cuts status m0 m' o0 o' (input_of r0 x) (input_of r' z))
ends_answered step cuts m0 m' o0 o' r0 r' s0 s' refusal status is told =
    WhereTold-weaker s0 s' _ _ told (λ x z finishes.
    rw is (Ends-finished step cuts m0 m' o0 o' (input_of r0 x) (input_of r' z) refusal finishes))

-- what a turn does with a line that was answered
pub Handles-went : {M : Type 0} (step : M → Line → Fetched → Reply → M → Type 0) (cuts : M → Stop → Line → Fetched → List ℕ → Type 0) (turn : Turn)
    (m m' : M) (o o' : Outside) (line : Line) (refusal : Bool) → turn ≡ (if is_quit line then Quit refusal else Went refusal) →
    is_passed line ≡ false → Replied (step m line) m' o o' refusal → Handles step cuts turn m m' o o' line
Handles-went step cuts turn m m' o o' line refusal is other replied = rw is (by_case (is_quit line) refl)
  where
    by_case : (quit : Bool) → is_quit line ≡ quit → Handles step cuts (if quit then Quit refusal else Went refusal) m m' o o' line
    by_case true quit = (quit, Answered-one step m m' o o' line refusal other replied)
    by_case false quit = (quit, Answered-one step m m' o o' line refusal other replied)
