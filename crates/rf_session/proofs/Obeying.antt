-- From what a line came to, what was brought and written.
use Rattle.std.proofs.Common.{◌≡◌, ◌≢◌, ◌≤◌, ℕ, Bool, ◌⊎◌, List, [], ◌∷◌, Some, Result, Ok, Err, refl, ap, sym, ◌∙◌, subst, inl, inr, arith, take}
use Rattle.std.specs.Result.{IfOk, IfErr, OnErr}
use Rattle.std.specs.declared.option.Option.{Option}
use Rattle.std.specs.Io.KnownBytes.{Appends}
use Rattle.rf_base.specs.Piece.{AppendsPrefix}
use Rattle.rf_base.specs.Shelf.{Ask}
use Rattle.rf_editor.specs.History.{History, edited_history}
use Rattle.rf_show.specs.Show.{ShowData}
use Rattle.rf_show.specs.declared.edit.Edit.{Edit}
use Rattle.rf_text.specs.Commands.{command_of}
use Rattle.rf_text.specs.declared.command.Command.{Command}
use Rattle.rf_text.specs.declared.command.UnknownLine.{UnknownLine}
use Rattle.rf_session.specs.declared.answer.Answer.{Answer}
use Rattle.rf_session.specs.declared.answer.Answer.TheVariants.{Reply as Says, Inquiry as Inquires}
use Rattle.rf_session.specs.declared.inquiry.Inquiry.{Inquiry}
use Rattle.rf_session.specs.declared.file_fault.FileFault.{FileFault}
use Rattle.rf_session.specs.declared.file_fault.FileFault.TheVariants.{Memory as NoMemory}
use Rattle.rf_session.specs.declared.machine.Stop.{Stop}
use Rattle.rf_session.specs.declared.machine.Stop.TheVariants.{Write}
use Rattle.rf_session.specs.declared.reply.Code.{Code}
use Rattle.rf_session.specs.declared.reply.Code.TheVariants.{UnknownLine as IsUnknownLine}
use Rattle.rf_session.specs.declared.reply.Reply.{Reply}
use Rattle.rf_session.specs.declared.reply.Reply.TheVariants.{Error}
use Rattle.rf_session.specs.Fetches.{absent, fault, Fetched, fetch_of, of_file, Got, Outside, outside, shelf_alone, Brought, Obeyed}
use Rattle.rf_session.specs.Reply.{is_refusal, text_of}
use Rattle.rf_session.specs.Run.{IsCut, Replied, Writes, WritesPart}
use Rattle.rf_session.specs.Shows.{AnswerPart, Answers, ComesTo, IsGivable, IsTold, Obeys, PartsOf, coded, moved, edited_by, file_of, outcome, said_outcome}
use Rattle.rf_session.proofs.FetchLaws.{Obeyed-absent, Obeyed-file}

-- what a file gave, where memory was found
same_edit : (edit whole : Result Edit FileFault) → IfOk edit (λ e. whole ≡ Ok e) → IfErr edit (λ why. why ≢ NoMemory → whole ≡ Err why) →
    edit ≢ Err NoMemory → edit ≡ whole
same_edit (Ok e) whole gives fails found = sym gives
same_edit (Err why) whole gives fails found = sym (fails (λ is. found (ap Err is)))

-- a command that names a file came to the edit of the file
pub obeyed_by : {E : Type 0} (r : Result Answer E) (old new : History) (command named : Command) (name : List ℕ) (got : Got) (edit whole : Result Edit FileFault)
    (before after : Outside) → command ≡ named → file_of named ≡ Some name → outcome old named got ≡ edited_by old whole →
    IfOk edit (λ e. whole ≡ Ok e) → IfErr edit (λ why. why ≢ NoMemory → whole ≡ Err why) → IfOk r (λ answer. edit ≢ Err NoMemory) →
    IfOk r (λ answer. answer ≡ (edited_by old edit).answer) → IfOk r (λ answer. new ≡ (edited_by old edit).history) →
    Brought before after (of_file name got ∷ []) → ((other : List ℕ) → other ≢ name → after.faults other ≡ before.faults other) →
    IfOk r (λ answer. Obeyed (λ fetched. ComesTo old (Ok command) fetched answer new) before after)
obeyed_by (Ok answer) old new command named name got edit whole before after is asks comes gives fails found says goes brought others =
    let same : edited_by old edit ≡ outcome old named got = ap (edited_by old) (same_edit edit whole gives fails found) ∙ sym comes in
    let took : ComesTo old (Ok named) (of_file name got) answer new =
    (got, ap (λ file. fetch_of file got) (sym asks), says ∙ ap (λ o. o.answer) same, goes ∙ ap (λ o. o.history) same) in
    rw is (Obeyed-file (λ fetched. ComesTo old (Ok named) fetched answer new) before after name got took brought others)
obeyed_by (Err e) old new command named name got edit whole before after is asks comes gives fails found says goes brought others = tt

-- a reply was written
pub said_given : {E : Type 0} (r : Result Bool E) (history new : History) (answer : Answer) (reply said : Reply) (a b : Option (List ℕ)) → answer ≡ Says reply →
    said ≡ reply → new ≡ history → IfOk r (λ refusal. Appends a b (text_of said)) → IfOk r (λ refusal. refusal ≡ is_refusal said) →
    IfOk r (Writes (λ reply. Answers history answer reply new) a b)
said_given (Ok refusal) history new answer reply said a b is same stays wrote refuses =
    rw is record { reply = said; took = (same, stays); wrote = wrote; refuses = refuses }
said_given (Err e) history new answer reply said a b is same stays wrote refuses = tt

-- a reply was cut short
pub said_cut : {T : Type 0} (r : Result T Stop) (history : History) (answer : Answer) (reply said : Reply) (a b : Option (List ℕ)) → answer ≡ Says reply →
    said ≡ reply → OnErr r (AppendsPrefix a b (text_of said)) → OnErr r (r ≡ Err Write) → IfErr r (λ stop. WritesPart (AnswerPart stop history answer) a b)
said_cut (Ok x) history answer reply said a b is same part only = tt
said_cut {T} (Err stop) history answer reply said a b is same part only =
    let by : stop ≡ Write = let it : ◌≡◌ {A = Result T Stop} (Err stop) (Err Write) = only in cc in
    rw (is, by) record {
      part = take part.count (text_of said);
      may = inr (inl (said, history, (same, refl), part.count, refl));
      wrote = part.grew;
    }

pub ok_then : {T E : Type 0} (r : Result T E) (P Q : T → Type 0) → IfOk r P → ((x : T) → P x → Q x) → IfOk r Q
ok_then (Ok x) P Q h f = f x h
ok_then (Err e) P Q h f = tt

moved_givable : (old : History) (r : Result History Code) → IsGivable (moved old r).answer
moved_givable old (Ok history) = tt
moved_givable old (Err code) = tt

edit_givable : (old : History) (edit : Result Edit FileFault) → IsGivable (edited_by old edit).answer
edit_givable old (Ok edit) = moved_givable old (coded (edited_history old edit))
edit_givable old (Err why) = tt

-- what a file's edit is answered can be given
pub givable_by : {E : Type 0} (r : Result Answer E) (old : History) (edit : Result Edit FileFault) → IfOk r (λ answer. answer ≡ (edited_by old edit).answer) → IfOk r IsGivable
givable_by (Ok answer) old edit is = subst IsGivable (sym is) (edit_givable old edit)
givable_by (Err e) old edit is = tt

-- what an inquiry was told was written
pub told_given : {E : Type 0} (r : Result Bool E) (history : History) (show : ShowData) (answer : Answer) (inquiry : Inquiry) (said : Reply) (a b : Option (List ℕ)) →
    answer ≡ Inquires inquiry → show ≡ history.show → IsTold show inquiry said → IfOk r (λ refusal. Appends a b (text_of said)) →
    IfOk r (λ refusal. refusal ≡ is_refusal said) → IfOk r (Writes (λ reply. Answers history answer reply history) a b)
told_given (Ok refusal) history show answer inquiry said a b is here told wrote refuses =
    rw is record { reply = said; took = (subst (λ (s : ShowData). IsTold s inquiry said) here told, refl); wrote = wrote; refuses = refuses }
told_given (Err e) history show answer inquiry said a b is here told wrote refuses = tt

-- it was cut short
pub told_cut : {T : Type 0} (r : Result T Stop) (history : History) (show : ShowData) (answer : Answer) (inquiry : Inquiry) (said : Reply) (a b : Option (List ℕ)) →
    answer ≡ Inquires inquiry → show ≡ history.show → IsTold show inquiry said → OnErr r (AppendsPrefix a b (text_of said)) → OnErr r (r ≡ Err Write) →
    IfErr r (λ stop. WritesPart (AnswerPart stop history answer) a b)
told_cut (Ok x) history show answer inquiry said a b is here told part only = tt
told_cut {T} (Err stop) history show answer inquiry said a b is here told part only =
    let by : stop ≡ Write = let it : ◌≡◌ {A = Result T Stop} (Err stop) (Err Write) = only in cc in
    rw (is, by) record {
      part = take part.count (text_of said);
      may = inr (inl (said, history, (subst (λ (s : ShowData). IsTold s inquiry said) here told, refl), part.count, refl));
      wrote = part.grew;
    }

module _ (old mid : History) (said : Result Command UnknownLine) (answer : Answer) (written written' : Option (List ℕ))
    (file file' : List ℕ → Option (Option (List ℕ))) (counts counts' : List ℕ → ℕ) (asked asked' : Option (List Ask))
    (obeyed : Obeyed (λ fetched. ComesTo old said fetched answer mid) (shelf_alone file counts asked) (shelf_alone file' counts' asked')) where
  -- the answer was given
  pub replied_by : {E : Type 0} (r : Result Bool E) (new : History) → IfOk r (Writes (λ reply. Answers mid answer reply new) written written') →
      IfOk r (Replied (Obeys old said) new (outside written file counts asked) (outside written' file' counts' asked'))
  replied_by (Ok refusal) new writes =
      let (got, fetched, is, from) = obeyed.took in record {
        fetched = obeyed.fetched;
        reply = writes.reply;
        took = (
          got,
          fetched,
          subst (λ (h : History). Answers h (said_outcome old said got).answer writes.reply new) from
              (subst (λ (a : Answer). Answers mid a writes.reply new) is writes.took),
        );
        brought = record { told = obeyed.brought.told; bound = obeyed.brought.bound; same = obeyed.brought.same; asks = obeyed.brought.asks };
        kept = obeyed.kept;
        wrote = writes.wrote;
        refuses = writes.refuses;
      }
  replied_by (Err e) new writes = tt

  may_of : (stop : Stop) (part : List ℕ) → AnswerPart stop mid answer part → PartsOf old stop said obeyed.fetched part
  may_of stop part may =
      let (got, fetched, is, from) = obeyed.took in (
        got,
        fetched,
        subst (λ (h : History). AnswerPart stop h (said_outcome old said got).answer part) from
            (subst (λ (a : Answer). AnswerPart stop mid a part) is may),
      )

  -- the answer was cut short
  pub cut_by : {T : Type 0} (r : Result T Stop) → IfErr r (λ stop. WritesPart (AnswerPart stop mid answer) written written') →
      IfErr r (λ stop. IsCut (PartsOf old stop said) (outside written file counts asked) (outside written' file' counts' asked'))
  cut_by (Ok x) writes = tt
  cut_by (Err stop) writes = record {
    fetched = obeyed.fetched;
    part = writes.part;
    may = begun writes.may;
    told = obeyed.brought.told 0 absent (omega arith);
    bound = obeyed.brought.bound;
    wrote = writes.wrote;
  }
    where
      begun : (writes.part ≡ []) ⊎ AnswerPart stop mid answer writes.part → (writes.part ≡ []) ⊎ PartsOf old stop said obeyed.fetched writes.part
      begun (inl none) = inl none
      begun (inr some) = inr (may_of stop writes.part some)

-- a line that no command has is refused
pub unknown_obeyed : (old : History) (line : List ℕ) (unknown : UnknownLine) (o : Outside) → command_of line ≡ Err unknown →
    Obeyed (λ fetched. ComesTo old (command_of line) fetched (Says (Error IsUnknownLine)) old) o o
unknown_obeyed old line unknown o is =
    rw is (Obeyed-absent (λ fetched. ComesTo old (Err unknown) fetched (Says (Error IsUnknownLine)) old) o (fault, refl, refl, refl))

-- nothing was written, and nothing is known of the fetch
pub cut_none : (cuts : Fetched → List ℕ → Type 0) (before after : Outside) → Appends before.written after.written [] →
    ((name : List ℕ) → before.faults name ≤ after.faults name) → IsCut cuts before after
cut_none cuts before after wrote later = record {
  fetched = absent;
  part = [];
  may = inl refl;
  told = tt;
  bound = λ name. let fewer : before.faults name ≤ after.faults name = later name in omega arith;
  wrote = wrote;
}
