-- Runs of a machine, one after another.
use Rattle.std.proofs.Common.{◌≡◌, ◌||◌, ℕ, Bool, true, false, List, [], ◌∷◌, ◌++◌, refl, sym, ◌∙◌, subst, map, cond, arith, not, filter, append-nil}
use Rattle.std.proofs.lemmas.Bool.Decides.{nat_tests}
use Rattle.std.proofs.lemmas.List.{map-append}
use Rattle.std.proofs.lemmas.List.Elements.{filter-append}
use Rattle.std.proofs.lemmas.List.Folds.{concat-append, list_any-append}
use Rattle.rf_base.specs.Script.{Line, short}
use Rattle.rf_base.proofs.ByteLaws.{Appends-then, Appends-nil}
use Rattle.rf_session.specs.Fetches.{Fetched, Outside}
use Rattle.rf_session.specs.declared.reply.Reply.{Reply}
use Rattle.rf_session.specs.Reply.{text_of, is_refusal, texts}
use Rattle.rf_session.specs.Run.{Run, is_quit, is_passed, up_to_quit, answered, quits, Answered, Replied}
use Rattle.rf_session.proofs.FetchLaws.{Brought-none, Brought-then, KeptCounts-then}
use mathlib.Core.Bool.{or-false}

-- `quit` is neither empty nor a comment
pub quit_not_passed : (bytes : List ℕ) → is_passed (short bytes) ≡ true → is_quit (short bytes) ≡ false
quit_not_passed [] passed = refl
quit_not_passed (byte ∷ bytes) passed = grind (arith, nat_tests)

pub answered-passed : (line : Line) → is_passed line ≡ true → answered (line ∷ []) ≡ []
answered-passed line passed = alone (is_quit line)
  where
    alone : (quit : Bool) → filter (λ l. not (is_passed l)) (line ∷ cond quit [] []) ≡ []
    alone true = rw passed refl
    alone false = rw passed refl

pub answered-one : (line : Line) → is_passed line ≡ false → answered (line ∷ []) ≡ line ∷ []
answered-one line other = alone (is_quit line)
  where
    alone : (quit : Bool) → filter (λ l. not (is_passed l)) (line ∷ cond quit [] []) ≡ line ∷ []
    alone true = rw other refl
    alone false = rw other refl

-- the lines after one that is not `quit`
pub answered-more : (line : Line) (lines : List Line) → is_quit line ≡ false → answered (line ∷ lines) ≡ answered (line ∷ []) ++ answered lines
answered-more line lines other = rw other (filter-append (λ l. not (is_passed l)) (line ∷ []) (up_to_quit lines))

pub answered-quit : (line : Line) (lines : List Line) → is_quit line ≡ true → answered (line ∷ lines) ≡ answered (line ∷ [])
answered-quit line lines quit = rw quit refl

pub quits-more : (line : Line) (lines : List Line) → is_quit line ≡ false → quits (line ∷ lines) ≡ quits lines
quits-more line lines other = rw other refl

pub quits-quit : (line : Line) (lines : List Line) → is_quit line ≡ true → quits (line ∷ lines) ≡ true
quits-quit line lines quit = rw quit refl

pub texts-append : (rs ts : List Reply) → texts (rs ++ ts) ≡ texts rs ++ texts ts
texts-append rs ts = rw (map-append text_of rs ts) (concat-append (map text_of rs) (map text_of ts))

-- one run after another
pub Run-append : {M : Type 0} (step : M → Line → Fetched → Reply → M → Type 0) (old mid new : M) (xs ys : List Line) (fs gs : List Fetched) (rs ts : List Reply) →
    Run step old xs fs rs mid → Run step mid ys gs ts new → Run step old (xs ++ ys) (fs ++ gs) (rs ++ ts) new
Run-append {M} step old mid new [] ys [] gs [] ts first second = let P : M → Type 0 = λ m. Run step m ys gs ts new in subst P first second
Run-append step old mid new [] ys [] gs (r ∷ rs) ts first second = absurd first
Run-append step old mid new [] ys (f ∷ fs) gs rs ts first second = absurd first
Run-append step old mid new (x ∷ xs) ys [] gs rs ts first second = absurd first
Run-append step old mid new (x ∷ xs) ys (f ∷ fs) gs [] ts first second = absurd first
Run-append step old mid new (x ∷ xs) ys (f ∷ fs) gs (r ∷ rs) ts first second =
    (first.0, first.1, Run-append step first.0 mid new xs ys fs gs rs ts first.2 second)

pub Answered-then : {M : Type 0} (step : M → Line → Fetched → Reply → M → Type 0) (old mid new : M) (before between after : Outside)
    (xs ys : List Line) (refusal again : Bool) → Answered step old mid before between xs refusal →
    Answered step mid new between after ys again → Answered step old new before after (xs ++ ys) (refusal || again)
Answered-then step old mid new before between after xs ys refusal again first second = record {
  fetches = first.fetches ++ second.fetches;
  replies = first.replies ++ second.replies;
  run = Run-append step old mid new xs ys first.fetches second.fetches first.replies second.replies first.run second.run;
  brought = Brought-then before between after first.fetches second.fetches first.brought second.brought;
  kept = KeptCounts-then before between after first.fetches second.fetches first.kept second.kept;
  wrote = Appends-then before.written between.written after.written _ _ _ first.wrote second.wrote (texts-append first.replies second.replies);
  refusals = rw (first.refusals, second.refusals) (sym (list_any-append is_refusal first.replies second.replies));
}

pub Answered-one : {M : Type 0} (step : M → Line → Fetched → Reply → M → Type 0) (old new : M) (before after : Outside)
    (line : Line) (refusal : Bool) → is_passed line ≡ false → Replied (step old line) new before after refusal →
    Answered step old new before after (answered (line ∷ [])) refusal
Answered-one step old new before after line refusal other replied =
    rw (answered-one line other) record {
      fetches = replied.fetched ∷ [];
      replies = replied.reply ∷ [];
      run = (new, replied.took, refl);
      brought = replied.brought;
      kept = replied.kept;
      wrote = rw append-nil replied.wrote;
      refusals = replied.refuses ∙ sym (or-false (is_refusal replied.reply));
    }

-- nothing was answered
pub Answered-none : {M : Type 0} (step : M → Line → Fetched → Reply → M → Type 0) (state : M) (o : Outside) → Answered step state state o o [] false
Answered-none step state o = record {
  fetches = [];
  replies = [];
  run = refl;
  brought = Brought-none o;
  kept = λ name none. refl;
  wrote = Appends-nil o.written;
  refusals = refl;
}

-- a line was passed over
pub Answered-passed : {M : Type 0} (step : M → Line → Fetched → Reply → M → Type 0) (state : M) (o : Outside) (line : Line) → is_passed line ≡ true →
    Answered step state state o o (answered (line ∷ [])) false
Answered-passed step state o line passed = rw (answered-passed line passed) (Answered-none step state o)

-- nothing more was answered
pub Answered-still : {M : Type 0} (step : M → Line → Fetched → Reply → M → Type 0) (old mid new : M) (before between after : Outside)
    (xs ys : List Line) (refusal : Bool) → Answered step old mid before between xs refusal → Answered step mid new between after [] false →
    ys ≡ xs ++ [] → Answered step old new before after ys refusal
Answered-still step old mid new before between after xs ys refusal first second same =
    let both = Answered-then step old mid new before between after xs [] refusal false first second in
    rw same (subst (λ b. Answered step old new before after (xs ++ []) b) (or-false refusal) both)
