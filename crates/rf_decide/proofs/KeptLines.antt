-- The lines that a search handed out are those that are kept.
use Rattle.std.proofs.Common.{◌≡◌, ℕ, ◌++◌, ◌∷◌, [], List, All, length, ap, sym, subst, ◌∙◌, refl, append-nil, append_assoc}
use Rattle.std.proofs.lemmas.List.Elements.{All-nil, All-push}
use Rattle.rf_log.specs.Case.{Case}
use Rattle.rf_log.specs.Solved.{IsSolved}
use Rattle.rf_log.specs.declared.line.LogLine.{LogLine}
use Rattle.rf_search.specs.Answers.{ending_of}
use Rattle.rf_search.specs.Out.{Leads, none, and_then}
use Rattle.rf_search.specs.declared.answer.Answer.{Answer}
use Rattle.rf_show.specs.Case.{case_of}
use Rattle.rf_show.specs.Show.{ShowData}
use Rattle.rf_solving.specs.Solving.{IsSolvedBy, IsWritten}
use Rattle.rf_decide.specs.declared.log_memory.LogMemory.{LogMemory}

-- a line is kept
abbrev pub Keeps : LogMemory → LogLine → LogMemory → Type 0
Keeps old line new = (new.carriers ≡ old.carriers) × IsWritten old.carriers line × (new.kept ≡ old.kept ++ line ∷ [])

-- lines are kept, one after another
pub record KeepsAll (first : LogMemory) (lines : List LogLine) (last : LogMemory) : Type 0 where
  pub carriers : last.carriers ≡ first.carriers
  pub written : All (IsWritten first.carriers) lines
  pub kept : last.kept ≡ first.kept ++ lines

pub leads_kept : {first last : LogMemory} {lines : List LogLine} → Leads Keeps first lines last → KeepsAll first lines last
leads_kept (none {state = s}) = record { carriers = refl; written = All-nil (IsWritten s.carriers); kept = sym (append-nil s.kept) }
leads_kept (and_then {first = first} {mid = mid} {last = last} {lines = lines} {line = line} before (same, fine, more)) =
    let so_far = leads_kept before in record {
      carriers = same ∙ so_far.carriers;
      written = All-push (IsWritten first.carriers) lines line so_far.written (subst (λ n. IsWritten n line) so_far.carriers fine);
      kept = more ∙ ap (λ xs. xs ++ line ∷ []) so_far.kept ∙ append_assoc first.kept lines (line ∷ []);
    }

-- what was solved, with the lines that are kept
pub solved_by : (show : ShowData) (n : ℕ) (case : Case) (answer : Answer) (first last : LogMemory) (log : List LogLine) → case ≡ case_of show
    → first.carriers ≡ length show.carriers → first.kept ≡ [] → log ≡ last.kept
    → (lines : List LogLine) × Leads Keeps first lines last × IsSolved case n lines (ending_of answer) → IsSolvedBy show n (ending_of answer) log
solved_by show n case answer first last log same many empty is (lines, leads, solved) =
    let all = leads_kept leads in
    let log_is : log ≡ lines = is ∙ all.kept ∙ ap (λ xs. xs ++ lines) empty in
    subst (λ xs. IsSolvedBy show n (ending_of answer) xs) (sym log_is)
    (record {
      solved = subst (λ (c : Case). IsSolved c n lines (ending_of answer)) same solved;
      written = subst (λ (k : ℕ). All (IsWritten k) lines) many all.written;
    })
