-- How a whole session begins, and what it comes to.
use Rattle.std.proofs.Common.{◌≡◌, ◌≤◌, ℕ, Bool, true, false, List, [], ◌∷◌, length, refl, subst, inl, arith, Some, None, IsSomeAnd, if◌then◌else◌}
use Rattle.std.proofs.lemmas.Bool.Decides.{nat_tests}
use Rattle.std.specs.declared.option.Option.{Option}
use Rattle.rf_base.specs.declared.line_reader.LineReader.{LineReader}
use Rattle.rf_base.specs.declared.status.Status.{Status}
use Rattle.rf_base.specs.declared.status.Status.TheVariants.{Done, Refused, Read, Write, Memory, Long}
use Rattle.rf_base.specs.Input.{Input, lines_of, is_long}
use Rattle.rf_base.specs.Reader.{input_of, pending_of}
use Rattle.rf_base.specs.Script.{Line}
use Rattle.rf_base.specs.Told.{WhereTold}
use Rattle.rf_base.proofs.ToldLaws.{WhereTold-same, WhereTold-weaker}
use Rattle.rf_session.specs.declared.machine.Stop.{Stop}
use Rattle.rf_session.specs.declared.machine.Stop.TheVariants.{Write as ByWrite, Memory as ByMemory}
use Rattle.rf_session.specs.Fetches.{Fetched, absent, Outside}
use Rattle.rf_session.specs.Run.{answered, Answered, Step, Cut}
use Rattle.rf_session.specs.Session.{Breaks, BreaksOff, Finishes, Ends}
use Rattle.rf_session.specs.Top.{script, script_limit, Headline, RepliesToTaken, RepliesToAll, RepliesToSome, IsReadThrough, Serves}
use Rattle.rf_session.specs.Shows.{Steps, Parts}
use Rattle.rf_editor.specs.History.{History, first_history}
use Rattle.rf_session.proofs.FetchLaws.{AppendsAsks-none, Brought-absent}
use Rattle.rf_session.specs.Unfetched.{IsBounded}
use Rattle.rf_session.proofs.UnfetchedLaws.{IsBounded-broken, IsBounded-run}
use Rattle.rf_base.proofs.ByteLaws.{Appends-nil}

-- nothing was written
breaks_none : (cuts : Line → Fetched → List ℕ → Type 0) (lines : List Line) → Breaks cuts lines absent []
breaks_none cuts [] = refl
breaks_none cuts (line ∷ lines) = inl refl

-- no memory was found for a reader
pub Serves-none : (o : Outside) (left : Option (List ℕ)) → WhereTold left left (Serves Memory o o)
Serves-none o left =
    let none = Brought-absent o o (λ name. refl) (λ name. refl) (AppendsAsks-none o.asked) in
    WhereTold-same left _ (λ bytes. record {
      last = first_history;
      rest = script bytes;
      ends = record {
        done = [];
        undone = answered (lines_of (script bytes));
        lines = refl;
        mid = first_history;
        fetches = [];
        replies = [];
        run = refl;
        last = absent;
        part = [];
        broke = breaks_none (Cut Parts first_history ByMemory) (answered (lines_of (script bytes)));
        told = none.told;
        bound = none.bound;
        wrote = Appends-nil o.written;
      };
      drained = λ read. cc;
    })

-- the loop's answer, from a reader that has taken nothing
pub Serves-served : (status : Status) (start last : History) (before after : Outside) (r r' : LineReader) (s s' : Option (List ℕ)) →
    start ≡ first_history → ((left : List ℕ) → input_of r left ≡ script left) → (status ≡ Read → pending_of r' ≡ []) →
    WhereTold s s' (λ x y. Ends (Step Steps) (Cut Parts) status start last before after (input_of r x) (input_of r' y)) →
    WhereTold s s' (Serves status before after)
Serves-served status start last before after r r' s s' first starts drained told = WhereTold-weaker s s' _ _ told (λ x y ends. record {
  last = last;
  rest = input_of r' y;
  ends =
      let begun = subst (λ (h : History). Ends (Step Steps) (Cut Parts) status h last before after (input_of r x) (input_of r' y)) first ends in
      subst (λ (i : Input). Ends (Step Steps) (Cut Parts) status first_history last before after i (input_of r' y)) (starts x) begun;
  drained = λ read. rw (drained read) refl;
})

not_long : (bytes : List ℕ) → length bytes ≤ script_limit → is_long (script bytes) ≡ true → ⊥
not_long bytes within long = absurd (grind (arith, nat_tests))

-- a script within the limit is not too long
pub fits : (before after : Outside) (s s' : Option (List ℕ)) → WhereTold s s' (λ bytes _. RepliesToAll before after bytes) →
    IsSomeAnd s (λ bytes. length bytes ≤ script_limit) → ⊥
fits before after None s' told small = small
fits before after (Some bytes) None told small = told
fits before after (Some bytes) (Some left) told small = not_long bytes small told.long

-- what the answers of a session say, status by status
module _ (before after : Outside) (s s' : Option (List ℕ)) where
  told_of : (status named : Status) (P : List ℕ → List ℕ → Type 0) → status ≡ named → WhereTold s s' (Serves status before after) →
      ((x y : List ℕ) → Serves named before after x y → P x y) → WhereTold s s' P
  told_of status named P is told ends = WhereTold-weaker s s' _ _ told (λ x y serves.
      ends x y (subst (λ (st : Status). Serves st before after x y) is serves))

  bounded_all : (lines : List Line) (old last : History) (refusal : Bool) (all : Answered (Step Steps) old last before after lines refusal) →
      IsBounded before after lines all.replies
  bounded_all lines old last refusal all = IsBounded-run old last before after lines all.fetches all.replies all.run all.brought.bound

  some_bounded : (stop : Stop) (bytes : List ℕ) → BreaksOff (Step Steps) (λ state. Cut Parts state stop) first_history before after (script bytes) →
      RepliesToSome stop before after bytes
  some_bounded stop bytes some = record {
    some = some;
    shelf = IsBounded-broken first_history some.mid before after some.done some.fetches some.replies some.last some.run some.bound;
  }

  finishes : (refusal : Bool) (x y : List ℕ) (serves : Serves (if refusal then Refused else Done) before after x y) →
      Finishes (Step Steps) first_history serves.last before after (script x) refusal
  finishes true x y serves = serves.ends
  finishes false x y serves = serves.ends

  pub Serves-headline : (status : Status) → WhereTold s s' (Serves status before after) → (refusal : Bool) → status ≡ (if refusal then Refused else Done) →
      WhereTold s s' (λ bytes _. Headline before after bytes refusal)
  Serves-headline status told refusal is = told_of status _ _ is told (λ x y serves.
      let all = (finishes refusal x y serves).all in
      record { last = serves.last; all = all; shelf = bounded_all _ _ _ refusal all })

  pub Serves-through : (status : Status) → WhereTold s s' (Serves status before after) → (refusal : Bool) → status ≡ (if refusal then Refused else Done) →
      WhereTold s s' (λ bytes _. IsReadThrough bytes)
  Serves-through status told refusal is = told_of status _ _ is told (λ x y serves. (finishes refusal x y serves).whole)

  pub Serves-long : (status : Status) → WhereTold s s' (Serves status before after) → status ≡ Long →
      WhereTold s s' (λ bytes _. RepliesToAll before after bytes)
  Serves-long status told is = told_of status Long _ is told (λ x y serves. record {
    last = serves.last;
    refusal = serves.ends.refusal;
    all = serves.ends.all;
    shelf = bounded_all _ _ _ serves.ends.refusal serves.ends.all;
    long = serves.ends.long;
    no_quit = serves.ends.no_quit;
  })

  pub Serves-read : (status : Status) → WhereTold s s' (Serves status before after) → status ≡ Read →
      WhereTold s s' (RepliesToTaken before after)
  Serves-read status told is = told_of status Read _ is told (λ x y serves. record {
    taken = serves.ends.taken;
    from = rw (← serves.drained refl) serves.ends.bytes;
    within = omega (arith, serves.ends.within);
    last = serves.last;
    refusal = serves.ends.refusal;
    all = serves.ends.all;
    shelf = bounded_all _ _ _ serves.ends.refusal serves.ends.all;
    no_quit = serves.ends.no_quit;
  })

  pub Serves-write : (status : Status) → WhereTold s s' (Serves status before after) → status ≡ Write →
      WhereTold s s' (λ bytes _. RepliesToSome ByWrite before after bytes)
  Serves-write status told is = told_of status Write _ is told (λ x y serves. some_bounded _ x serves.ends)

  pub Serves-memory : (status : Status) → WhereTold s s' (Serves status before after) → status ≡ Memory →
      WhereTold s s' (λ bytes _. RepliesToSome ByMemory before after bytes)
  Serves-memory status told is = told_of status Memory _ is told (λ x y serves. some_bounded _ x serves.ends)
