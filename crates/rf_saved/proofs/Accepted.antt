-- A search that is saved is accepted.
use Rattle.std.proofs.Common.{◌≡◌, ◌∙◌, inr, ℕ, ◌+◌, ◌≤◌, List, [], ◌∷◌, ◌++◌, true, false, length, map, refl, ap, sym, subst, arith, append-nil, append_assoc, Option, Some, None}
use Rattle.std.specs.Prelude.{codes, decimal, is_some}
use Rattle.std.specs.List.{All, count_by, list_all}
use Rattle.std.specs.Str.{bytes_eq}
use Rattle.std.proofs.lemmas.List.{length-map}
use Rattle.std.proofs.lemmas.List.Elements.{All-weaker}
use Rattle.rf_profiles.specs.Profile.{differ}
use Rattle.rf_log.specs.declared.hint.Hint.{Hint}
use Rattle.rf_log.specs.declared.hint.Hint.TheVariants.{Earlier, Ban, Rule}
use Rattle.rf_log.specs.declared.line.LogLine.{LogLine}
use Rattle.rf_log.specs.declared.line.LogLine.TheVariants.{Nogood, Branch, Up}
use Rattle.rf_log.specs.declared.verdict.Cause.{Cause}
use Rattle.rf_log.specs.declared.verdict.Verdict.{Verdict}
use Rattle.rf_log.specs.declared.verdict.Verdict.TheVariants as verdict
use Rattle.rf_log.specs.Case.{Case, IsPlan}
use Rattle.rf_log.specs.Laws.{ClosedHasNoPlan}
use Rattle.rf_log.specs.LineTexts.{IsShortLine, spaced}
use Rattle.rf_log.specs.LogText.{IsHintBelow, IsLineBelow, is_ending, is_spent}
use Rattle.rf_log.specs.Solved.{Ending, IsSolved, is_refused, planned, refuted, spent, tree_from}
use Rattle.rf_log.specs.Walk.{Tree, cause_of, is_branch, tree_after, verdict_at_end, verdict_of, walk}
use Rattle.rf_log.specs.Words.{words_in}
use Rattle.rf_readback.specs.Law.{IsEnding, IsReadBack, WrittenReadsBack}
use Rattle.rf_readback.proofs.OperandLaws.{number_back}
use Rattle.rf_readback.proofs.WordLaws.{is_word, words_back}
use Rattle.rf_show.specs.Case.{case_of}
use Rattle.rf_show.specs.Show.{ShowData, carrier_names}
use Rattle.rf_checker.specs.Carriers.{lines_over}
use Rattle.rf_search.specs.declared.limits.TheConstants.{MAX_BUDGET}
use Rattle.rf_solving.specs.Solving.{IsSearch, IsWritten, verdict_text}
use Rattle.rf_saved.specs.Saved.{IsAccepted, SavedSearchIsAccepted, verdict_after}
use Rattle.rf_audit.specs.Laws.{StartedIsHonest}
use Rattle.rf_audit.specs.declared.answer.Audit.TheVariants.{Honest}
use Rattle.rf_saved.proofs.Carried.{branches_over, branches_read, read_over}
use Rattle.rf_saved.proofs.Honest.{started_same}
use Rattle.rf_saved.proofs.Trimmed.{Aims, LineAims, aims_back, aims_on, trimmed, verdict_trimmed}
use Rattle.rf_show.proofs.KeptLaws.{names_differ}

-- ---- the verdict ends the log

spent_ending : (line : List ℕ) → is_spent (words_in line) ≡ true → bytes_eq line (codes "plan") ≡ false → bytes_eq line (codes "refuted") ≡ false → is_ending line ≡ true
spent_ending line h plan none = rw (plan, none, h) refl

spent_line : (n : ℕ) → n ≤ MAX_BUDGET → is_ending (codes "spent " ++ decimal n) ≡ true
spent_line n few =
    let says = number_back n (omega (arith, few)) in
    let words : list_all is_word (codes "spent" ∷ decimal n ∷ []) ≡ true = rw says.valid refl in
    let split : words_in (codes "spent" ++ spaced (decimal n ∷ [])) ≡ codes "spent" ∷ decimal n ∷ [] = words_back (codes "spent") (decimal n ∷ []) words in
    let line : codes "spent" ++ spaced (decimal n ∷ []) ≡ codes "spent " ++ decimal n = ap (λ (d : List ℕ). codes "spent " ++ d) (append-nil (decimal n)) in
    spent_ending (codes "spent " ++ decimal n)
    (ap (λ (l : List ℕ). is_spent (words_in l)) (sym line) ∙ ap is_spent split ∙ ap is_some says.read)
    refl refl

pub ends_log : (show : ShowData) (n : ℕ) (ending : Ending) → n ≤ MAX_BUDGET → IsEnding (verdict_text show n ending)
ends_log show n (planned plan) few = record { line = codes "plan"; rest = _; ending = refl; end = refl; whole = refl }
ends_log show n refuted few = record { line = codes "refuted"; rest = codes "\n"; ending = refl; end = refl; whole = refl }
ends_log show n spent few =
    record { line = codes "spent " ++ decimal n; rest = codes "\n"; ending = spent_line n few; end = refl; whole = sym (append_assoc (codes "spent ") (decimal n) (codes "\n")) }

-- ---- what the checker says of the lines that were written

walk_ends : (case : Case) (done : List LogLine) (tree : Tree) (rest : List LogLine) → is_refused (walk case done tree rest) ≡ false
    → walk case done tree rest ≡ verdict_at_end (done ++ rest) (tree_from tree rest)
walk_ends case done tree [] fine = ap (λ (ls : List LogLine). verdict_at_end ls tree) (sym (append-nil done))
walk_ends case done tree (line ∷ rest) fine =
    let P : Option Cause → Type 0 = λ o.
    is_refused (elim o as (λ _. Verdict) [ None ↦ walk case (done ++ line ∷ []) (tree_after tree line) rest | Some reason ↦ verdict.Refused (length done + 1) reason ]) ≡ false
    → (elim o as (λ _. Verdict) [ None ↦ walk case (done ++ line ∷ []) (tree_after tree line) rest | Some reason ↦ verdict.Refused (length done + 1) reason ])
    ≡ verdict_at_end (done ++ line ∷ rest) (tree_from (tree_after tree line) rest) in
    let all : (o : Option Cause) → P o = λ o. elim o as P [
      | None ↦ λ e. walk_ends case (done ++ line ∷ []) (tree_after tree line) rest e
          ∙ ap (λ (ls : List LogLine). verdict_at_end ls (tree_from (tree_after tree line) rest)) (append_assoc done (line ∷ []) rest)
      | Some reason ↦ λ e. absurd (cc)
    ] in
    all (cause_of case done tree line) fine

open_tree : (case : Case) (n : ℕ) (log : List LogLine) (plan : List ℕ) (tree : Tree) → ClosedHasNoPlan → IsPlan case plan → verdict_of case log ≡ verdict_at_end log tree
    → verdict_of case log ≡ verdict_after n log (planned plan)
open_tree case n log plan None sound is ends = absurd (sound case log ends plan is)
open_tree case n log plan (Some path) sound is ends = ends

pub solved_verdict : (case : Case) (n : ℕ) (log : List LogLine) (ending : Ending) → ClosedHasNoPlan → IsSolved case n log ending
    → verdict_of case log ≡ verdict_after n log ending
solved_verdict case n log (planned plan) sound solved =
    open_tree case n log plan (tree_from (Some []) log) sound solved.ends (walk_ends case [] (Some []) log solved.started.valid)
solved_verdict case n log refuted sound solved = solved.ends
solved_verdict case n log spent sound solved =
    walk_ends case [] (Some []) log solved.started.valid ∙ ap (verdict_at_end log) solved.ends.at ∙ ap verdict.Unfinished solved.ends.all

verdict_moved : (n : ℕ) (lines others : List LogLine) (ending : Ending) → count_by is_branch lines ≡ count_by is_branch others
    → verdict_after n lines ending ≡ verdict_after n others ending
verdict_moved n lines others (planned plan) same = ap verdict.Unfinished same
verdict_moved n lines others refuted same = refl
verdict_moved n lines others spent same = refl

-- ---- the whole

hint_target : (n : ℕ) (hint : Hint) → IsHintBelow n hint → Aims hint
hint_target n (Earlier line) below = tt
hint_target n (Ban carrier lo hi) below = tt
hint_target n (Rule kind roles target lo hi) below = below.place

line_target : (n : ℕ) (line : LogLine) → IsLineBelow n line → LineAims line
line_target n (Nogood conds hints) below = All-weaker (IsHintBelow n) Aims (hint_target n) hints below.1
line_target n (Branch cut carrier at) below = tt
line_target n (Up line) below = tt

module _ (read_back : WrittenReadsBack) (sound : ClosedHasNoPlan) (all_honest : StartedIsHonest) where
  accepted_by : (show : ShowData) (n : ℕ) (ending : Ending) (text : List ℕ) (search : IsSearch show n ending text) → differ (carrier_names show.carriers) ≡ true
      → IsReadBack (carrier_names show.carriers) search.log text → IsAccepted show n ending text
  accepted_by show n ending text search apart back =
      let below : All (IsLineBelow (length show.carriers)) search.log =
      All-weaker (IsWritten (length show.carriers)) (IsLineBelow (length show.carriers)) (λ line h. h.known) search.log search.written in
      let same : map trimmed (lines_over show back.log) ≡ map trimmed search.log = read_over show search.log back.log apart below back.same in
      let branches : count_by is_branch back.log.lines ≡ count_by is_branch search.log = branches_read show search.log back.log same in
      let aims : All LineAims search.log = All-weaker (IsLineBelow (length show.carriers)) LineAims (line_target (length show.carriers)) search.log below in
      let read_aims : All LineAims (lines_over show back.log)
      = aims_back (lines_over show back.log) (subst (λ (ls : List LogLine). All LineAims ls) (sym same) (aims_on search.log aims)) in
      record {
        log = back.log;
        read = back.read;
        within = subst (λ (k : ℕ). k ≤ n) (sym branches) search.solved.started.within;
        judged =
            sym (verdict_trimmed (case_of show) (lines_over show back.log) read_aims)
            ∙ ap (verdict_of (case_of show)) same
            ∙ verdict_trimmed (case_of show) search.log aims
            ∙ solved_verdict (case_of show) n search.log ending sound search.solved
            ∙ sym (verdict_moved n back.log.lines search.log ending branches);
        audited = λ found is.
            all_honest (case_of show) n (lines_over show back.log) found
            (started_same (case_of show) n search.log (lines_over show back.log) same aims read_aims search.solved.started) is
            ∙ ap Honest (branches_over show back.log);
      }

  pub accepted : SavedSearchIsAccepted
  accepted show n ending text is named few search =
      let names = carrier_names show.carriers in
      let many : length names ≡ length show.carriers = length-map show.carriers (λ c. c.name) in
      let below : All (IsLineBelow (length names)) search.log
      = subst (λ (k : ℕ). All (IsLineBelow k) search.log) (sym many)
      (All-weaker (IsWritten (length show.carriers)) (IsLineBelow (length show.carriers)) (λ line h. h.known) search.log search.written) in
      let short : All IsShortLine search.log = All-weaker (IsWritten (length show.carriers)) IsShortLine (λ line h. h.short) search.log search.written in
      accepted_by show n ending text search (names_differ show is)
      (subst (λ (bytes : List ℕ). IsReadBack names search.log bytes) (sym search.is)
      (read_back names search.log (verdict_text show n ending) named below short (inr (ends_log show n ending few))))
