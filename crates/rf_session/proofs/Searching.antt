-- What a search wrote: its reply, or a part of it.
use Rattle.std.proofs.Common.{◌≡◌, ◌+◌, ◌++◌, ℕ, Bool, false, List, [], ◌∷◌, Ok, Err, refl, ap, sym, subst, ◌∙◌, inl, inr, length, take, Result}
use Rattle.std.specs.Result.{OnOk, is_err}
use Rattle.std.specs.Io.KnownBytes.{Appends}
use Rattle.std.specs.declared.option.Option.{Option}
use Rattle.rf_base.proofs.ByteLaws.{Appends-then}
use Rattle.rf_editor.specs.History.{History}
use Rattle.rf_log.specs.Solved.{Ending}
use Rattle.rf_show.specs.Show.{ShowData}
use Rattle.rf_solving.specs.Solving.{IsBegun, IsEnded, plan_ats}
use Rattle.rf_session.specs.declared.answer.Answer.{Answer}
use Rattle.rf_session.specs.declared.answer.Answer.TheVariants.{Search}
use Rattle.rf_session.specs.declared.machine.Stop.{Stop}
use Rattle.rf_session.specs.declared.machine.Stop.TheVariants.{Write, Memory}
use Rattle.rf_session.specs.declared.reply.Reply.TheVariants.{Text}
use Rattle.rf_session.specs.Run.{Writes, WritesPart}
use Rattle.rf_session.specs.Shows.{AnswerPart, LeavesAfter, LogPart, Searches}
use Rattle.rf_base.proofs.ListLaws.{take_past}

-- a search has ended
pub searched_reply : (old new : History) (n : ℕ) (places : Bool) (ending : Ending) (log verdict : List ℕ) (a b c : Option (List ℕ)) →
    IsEnded old.show n ending log verdict → LeavesAfter old places (plan_ats old.show ending) new → Appends a b log → Appends b c verdict →
    Writes (λ reply. Searches old n places reply new) a c false
searched_reply old new n places ending log verdict a b c ended leaves first second = record {
  reply = Text (log ++ verdict);
  took = (ending, log ++ verdict, ended.whole, refl, leaves);
  wrote = Appends-then a b c log verdict _ first second refl;
  refuses = refl;
}

may_stop : (old : History) (answer : Answer) (stop : Stop) (part : List ℕ) → LogPart old answer part → AnswerPart stop old answer part
may_stop old answer Write part some = inr some
may_stop old answer Memory part some = some

-- a part of the log was written
pub begun_cut : (old : History) (places : Bool) (stop : Stop) (n k : ℕ) (log : List ℕ) (a b : Option (List ℕ)) → IsBegun old.show n log →
    Appends a b (take k log) → WritesPart (AnswerPart stop old (Search n places)) a b
begun_cut old places stop n k log a b begun wrote = record {
  part = take k log;
  may = inr (may_stop old (Search n places) stop (take k log) (log, begun, k, refl));
  wrote = wrote;
}

-- all of the log was
pub whole_cut : (old : History) (places : Bool) (stop : Stop) (n : ℕ) (log : List ℕ) (a b : Option (List ℕ)) → IsBegun old.show n log →
    Appends a b log → WritesPart (AnswerPart stop old (Search n places)) a b
whole_cut old places stop n log a b begun wrote =
    begun_cut old places stop n (length log) log a b begun (subst (λ (part : List ℕ). Appends a b part) (sym (all_of log)) wrote)
  where
    all_of : (xs : List ℕ) → take (length xs) xs ≡ xs
    all_of [] = refl
    all_of (x ∷ xs) = ap (λ ys. x ∷ ys) (all_of xs)

-- the log was written, and a part of the verdict
pub verdict_cut : (old new : History) (n k : ℕ) (places : Bool) (ending : Ending) (log verdict : List ℕ) (a b c : Option (List ℕ)) →
    IsEnded old.show n ending log verdict → LeavesAfter old places (plan_ats old.show ending) new →
    Appends a b log → Appends b c (take k verdict) → WritesPart (AnswerPart Write old (Search n places)) a c
verdict_cut old new n k places ending log verdict a b c ended leaves first second = record {
  part = log ++ take k verdict;
  may = inr (inl (Text (log ++ verdict), new, (ending, log ++ verdict, ended.whole, refl, leaves), length log + k, take_past log verdict k));
  wrote = Appends-then a b c log (take k verdict) _ first second refl;
}

-- a call that gave no error
pub of_ok : {X E : Type 0} (r : Result X E) (P : Type 0) → is_err r ≡ false → OnOk r P → P
of_ok (Ok x) P fine holds = holds
of_ok (Err e) P fine holds = cc

-- what an edit by a plan leaves, in the words of the history's show
pub leaves_here : (old new : History) (places : Bool) (ats : Option (List (Option ℕ))) (show : ShowData) (ending : Ending) →
    show ≡ old.show → ats ≡ plan_ats show ending → LeavesAfter old places ats new → LeavesAfter old places (plan_ats old.show ending) new
leaves_here old new places ats show ending same are leaves =
    subst (λ (a : Option (List (Option ℕ))). LeavesAfter old places a new) (are ∙ ap (λ s. plan_ats s ending) same) leaves
