-- The turns of a search keep what it owes.
use Rattle.std.proofs.Common.{◌≡◌, ℕ, ◌+◌, ◌<◌, ◌≤◌, List, [], ◌∷◌, ◌++◌, length, reverse, Bool, true, false, refl, sym, ◌∙◌, ap, subst, arith, slice_index, Some, None, IsTrue}
use Rattle.std.proofs.lemmas.Bool.Decides.{nat_tests}
use Rattle.rf_terms.specs.declared.kind.Kind.{Kind}
use Rattle.rf_log.specs.declared.cond.Cond.{Cond}
use Rattle.rf_log.specs.declared.line.LogLine.{LogLine}
use Rattle.rf_log.specs.declared.line.LogLine.TheVariants.{Branch}
use Rattle.rf_log.specs.declared.line.Cut.TheVariants.{Fix}
use Rattle.rf_log.specs.Case.{Case, counts_of}
use Rattle.rf_log.specs.Box.{between}
use Rattle.rf_log.specs.Hints.{Line, line_at, nogood_at}
use Rattle.rf_log.specs.Relations.{members}
use Rattle.rf_log.specs.Walk.{left_side}
use Rattle.rf_log.specs.Solved.{IsStarted, IsSolved, planned, spent}
use Rattle.rf_log.proofs.CaseLaws.{counts_length}
use Rattle.rf_domain.specs.Sets as sets
use Rattle.rf_trail.specs.declared.entry.Entry.{Entry}
use Rattle.rf_trail.specs.Trace as trace
use Rattle.rf_trail.specs.Trace.{Trace, has_of, decided}
use Rattle.rf_trail.proofs.TraceLaws.{has_size}
use Rattle.rf_propagate.specs.Laws.{Extends, IsClosed, IsQuiet, IsOnPath, HasEveryKind}
use Rattle.rf_search.specs.declared.choice.Choice.{Choice}
use Rattle.rf_search.specs.declared.level.Level.{Level}
use Rattle.rf_search.specs.declared.search.Search.{Search}
use Rattle.rf_search.specs.declared.limits.TheConstants.{MAX_BUDGET, MAX_NUMBER}
use Rattle.rf_search.specs.Out.{none, and_then}
use Rattle.rf_search.specs.Choices.{IsChoice, HaveNoPair, AreSome}
use Rattle.rf_search.specs.State.{Marked, start, decide, path_of, path_at, Agrees, IsSearching, IsMarked, IsUnderWay, IsWriting, IsStopped, IsFailed}
use Rattle.rf_search.specs.Turns.{IsWhole, IsAtRest, IsBranching}
use Rattle.rf_search.proofs.WritableLemmas.{index_short}
use Rattle.rf_search.proofs.Steps.{marked-grown, marked-on, marked-more, on_path, branch_more, branch_step, agrees-push, agrees-learn}
use Rattle.rf_search.proofs.Endings.{plan_from}
use Rattle.rf_search.proofs.Turning.{last_is}
use Rattle.rf_propagate.proofs.LineLaws.{size_is}

-- after the engine
pub settled_on : {case : Case} {lines : List Line} {owed : ℕ} {log : List LogLine} (search : Search) (t : Trace) → IsUnderWay case lines owed search log
    → t.counts ≡ search.trail.counts → Extends case lines search.trail.entries t.entries → IsUnderWay case lines owed (record search { trail = t }) log
settled_on search t u counts wider = record {
  trail = record { counts = counts ∙ u.trail.counts; marked = marked-on u.trail.marked wider };
  small = u.small;
  bounded = u.bounded;
  searching = u.searching;
  branched = u.branched;
  numbered = u.numbered;
  agrees = u.agrees;
}

-- after a line was learned
pub learned_on : {case : Case} {lines : List Line} {owed : ℕ} {search : Search} {log : List LogLine} (number : ℕ) (conds : List Cond) → IsUnderWay case lines owed search log
    → nogood_at log number ≡ Some conds → IsUnderWay case (lines ++ record { number = number; conds = conds } ∷ []) owed search log
learned_on {case} {lines} {owed} {search} {log} number conds u found = record {
  trail = record { counts = u.trail.counts; marked = marked-more (record { number = number; conds = conds } ∷ []) u.trail.marked };
  small = u.small;
  bounded = u.bounded;
  searching = u.searching;
  branched = u.branched;
  numbered = u.numbered;
  agrees = agrees-learn lines log number conds found u.agrees;
}

-- there are few lines, and one more has a text
pub few_lines : {case : Case} {lines : List Line} {owed : ℕ} {search : Search} {log : List LogLine} → IsUnderWay case lines owed search log → owed ≤ 1
    → length log + 1 ≤ MAX_NUMBER
few_lines u low = omega (arith, u.searching.long, u.searching.turned, u.searching.followed, u.searching.started.within, u.bounded, low)

pub path_on : {case : Case} {lines : List Line} {owed : ℕ} {search : Search} {log : List LogLine} → IsUnderWay case lines owed search log
    → IsOnPath case (path_at search) (trace.box_of search.trail)
path_on {case} {lines} {owed} {search} u =
    subst (λ (ns : List ℕ). IsOnPath case (path_at search) (members (has_of ns search.trail.entries))) (sym u.trail.counts)
    (on_path (marked-grown u.trail.marked))

pub at_rest : (case : Case) (search : Search) (t : Trace) {ks : List Kind} (b : Bool) → HasEveryKind ks → IsTrue b → IsQuiet case ks b (trace.box_of t)
    → IsClosed case (path_at search) (trace.box_of t) → IsAtRest case (record search { trail = t })
at_rest case search t {ks} b every asked quiet closed = record {
  kinds = ks;
  every = every;
  quiet = record { living = quiet.living; settled = quiet.settled; allowed = λ e. quiet.allowed asked };
  closed = closed;
}

met_alone : (k : ℕ) → between k k k ≡ true
met_alone k = grind (arith, nat_tests)

unmet_apart : (k j : ℕ) → (k ≡ j → ⊥) → between k k j ≡ false
unmet_apart k j apart = grind (arith, nat_tests)

pub branching : {case : Case} {lines : List Line} {search : Search} {log : List LogLine} (choice : Choice) → IsUnderWay case lines 0 search log → IsAtRest case search
    → IsChoice (length search.trail.counts) (has_of search.trail.counts search.trail.entries) choice → IsBranching case search choice
branching {case} {lines} {search} choice u rest choice_ =
    let c = choice.carrier in
    let es = search.trail.entries in
    let one : has_of (counts_of case) es c choice.at ≡ true = subst (λ (ns : List ℕ). has_of ns es c choice.at ≡ true) u.trail.counts choice_.one in
    let low : choice.at < sets.size_of (counts_of case) c = has_size (counts_of case) es c choice.at one in
    record {
      known = omega (arith, choice_.known, ap length u.trail.counts, counts_length case);
      low = subst (λ (n : ℕ). choice.at < n) (size_is case c) low;
      size = low;
      honest = record {
        living = rest.closed.living;
        left = (choice.at, rest.closed.within c choice.at choice_.one, met_alone choice.at);
        right = (choice.other, rest.closed.within c choice.other choice_.two, unmet_apart choice.at choice.other choice_.apart);
      };
      writable = index_short case c choice.at u.small low;
    }

abbrev pub left_level : Choice → ℕ → Level
left_level choice entries = record { cond = left_side Fix choice.carrier choice.at; mark = record { entries = entries }; closed_by = None }

-- the search after the branch line was handed out and the left side was decided
pub branched : {case : Case} {lines : List Line} {old : Search} {log : List LogLine} (new : Search) (choice : Choice) → IsUnderWay case lines 0 old log → IsBranching case old choice
    → old.branches < old.budget
    → new.levels.items ≡ old.levels.items ++ left_level choice (length old.trail.entries) ∷ []
    → new.trail ≡ record old.trail { entries = decided (left_side Fix choice.carrier choice.at) (sets.size_of old.trail.counts choice.carrier) ++ old.trail.entries }
    → new.lines ≡ old.lines + 1 → new.branches ≡ old.branches + 1 → new.budget ≡ old.budget
    → IsUnderWay case lines 0 new (log ++ Branch Fix choice.carrier choice.at ∷ [])
branched {case} {lines} {old} {log} new choice u is left levels trail counted branches budget =
    let c = choice.carrier in
    let cond = left_side Fix c choice.at in
    let es = old.trail.entries in
    let line = Branch Fix c choice.at in
    let more_ = branch_more log Fix c choice.at in
    let next : Trace = record { counts = old.trail.counts; entries = decided cond (sets.size_of (counts_of case) c) ++ es } in
    let levels_are : reverse new.levels.items ≡ left_level choice (length es) ∷ reverse old.levels.items = last_is new.levels.items old.levels.items (left_level choice (length es)) levels in
    let path_is : path_at new ≡ cond ∷ path_at old = ap path_of levels_are in
    let trail_is : new.trail ≡ next = trail ∙ ap (λ (ns : List ℕ). cut_to old.trail cond (sets.size_of ns c)) u.trail.counts in
    record {
      trail = subst (λ (t : Trace). IsMarked case lines new.levels.items t) (sym trail_is) (record {
        counts = u.trail.counts;
        marked = subst (λ (ls : List Level). Marked case lines ls next.entries) (sym levels_are)
            (decide {level = left_level choice (length es)} u.trail.marked refl (omega arith) is.size);
      });
      small = u.small;
      bounded = subst (λ (n : ℕ). n ≤ MAX_BUDGET) (sym budget) u.bounded;
      searching = subst (λ (p : List Cond). IsSearching case new.budget 0 (log ++ line ∷ []) p) (sym path_is)
          (subst (λ (n : ℕ). IsSearching case n 0 (log ++ line ∷ []) (cond ∷ path_at old)) (sym budget)
          (branch_step case old.budget log (path_at old) Fix c choice.at u.searching is.known is.low is.honest (omega (arith, u.branched, left))));
      branched = omega (arith, branches, u.branched, more_.branches);
      numbered = omega (arith, counted, u.numbered, more_.long);
      agrees = agrees-push log line u.agrees;
    }
  where
    cut_to : Trace → Cond → ℕ → Trace
    cut_to t cond n = record { counts = t.counts; entries = decided cond n ++ t.entries }

-- the log with the branch line is started
pub branch_started : {case : Case} {lines : List Line} {old : Search} {log : List LogLine} (choice : Choice) → IsUnderWay case lines 0 old log → IsBranching case old choice
    → old.branches < old.budget → IsStarted case old.budget (log ++ Branch Fix choice.carrier choice.at ∷ [])
branch_started {case} {lines} {old} {log} choice u is left =
    (branch_step case old.budget log (path_at old) Fix choice.carrier choice.at u.searching is.known is.low is.honest (omega (arith, u.branched, left))).started

-- each carrier has one index
pub planned_by : {case : Case} {lines : List Line} {search : Search} {log : List LogLine} (plan : List ℕ) → IsUnderWay case lines 0 search log → IsAtRest case search
    → HaveNoPair (length search.trail.counts) (has_of search.trail.counts search.trail.entries)
    → AreSome (length search.trail.counts) (has_of search.trail.counts search.trail.entries) plan → IsSolved case search.budget log (planned plan)
planned_by {case} {lines} {search} {log} plan u rest none_ some = record {
  started = u.searching.started;
  ends = plan_from case rest.kinds (has_of search.trail.counts search.trail.entries) plan rest.every rest.quiet (record {
    full = some.full ∙ long;
    below = λ c k here. subst (λ (n : ℕ). k < n) (ap (λ (ns : List ℕ). sets.size_of ns c) u.trail.counts ∙ size_is case c) (has_size search.trail.counts search.trail.entries c k here);
    each = λ c low.
        let known : c < length search.trail.counts = omega (arith, some.full, low) in
        let one = rest.quiet.living c (omega (arith, known, counts_length case, long)) in
        let here : has_of search.trail.counts search.trail.entries c (slice_index plan c) ≡ true = (some.each c known).here one.0 one.1 in
        (here, λ j at. (none_.each c known).each j (slice_index plan c) at here);
  });
}
  where
    long : length search.trail.counts ≡ length case.carriers
    long = ap length u.trail.counts ∙ counts_length case

-- the budget is used up where a carrier has two indices
pub spent_by : {case : Case} {lines : List Line} {search : Search} {log : List LogLine} (choice : Choice) → IsUnderWay case lines 0 search log → IsAtRest case search
    → IsChoice (length search.trail.counts) (has_of search.trail.counts search.trail.entries) choice → search.budget ≤ search.branches → IsSolved case search.budget log spent
spent_by {case} {lines} {search} {log} choice u rest is all = record {
  started = u.searching.started;
  ends = record {
    all = omega (arith, u.branched, all, u.searching.started.within);
    path = path_at search;
    at = u.searching.at;
    living = rest.closed.living;
    carrier = choice.carrier;
    known = omega (arith, is.known, ap length u.trail.counts, counts_length case);
    one = (choice.at, rest.closed.within choice.carrier choice.at is.one);
    other = (choice.other, rest.closed.within choice.carrier choice.other is.two, λ e. absurd (omega (arith, e, is.apart)));
  };
}

pub started_none : (case : Case) (n : ℕ) → IsStarted case n []
started_none case n = record { valid = refl; honest = tt; within = omega arith; one_each = omega arith }

-- before the first turn
pub begun : {S : Type 0} {taken : S → LogLine → S → Type 0} (case : Case) (lines : List Line) (search : Search) (first : S) → search.trail.counts ≡ counts_of case → search.trail.entries ≡ []
    → sets.AreCounts (counts_of case) → search.budget ≤ MAX_BUDGET → search.levels.items ≡ [] → search.lines ≡ 0 → search.branches ≡ 0 → lines ≡ []
    → IsWriting taken case lines search first first
begun case lines search first counts entries small bounded levels counted branches alone = record {
  log = [];
  leads = none;
  under_way = record {
    trail = record {
      counts = counts;
      marked = subst (λ (es : List Entry). Marked case lines (reverse search.levels.items) es) (sym entries)
          (subst (λ (ls : List Level). Marked case lines (reverse ls) []) (sym levels) start);
    };
    small = small;
    bounded = bounded;
    searching = subst (λ (ls : List Level). IsSearching case search.budget 0 [] (path_of (reverse ls))) (sym levels) (record {
      started = started_none case search.budget;
      at = refl;
      turned = refl;
      followed = omega arith;
      long = refl;
    });
    branched = branches;
    numbered = counted;
    agrees = subst (λ (ls : List Line). Agrees (line_at ls) (nogood_at [])) (sym alone) (record { each = λ n conds e. cc });
  };
}

module _ {S : Type 0} {taken : S → LogLine → S → Type 0} {case : Case} {lines : List Line} {search : Search} {first now : S} where
  -- after the engine
  pub writing_on : IsWriting taken case lines search first now → (t : Trace) → t.counts ≡ search.trail.counts → Extends case lines search.trail.entries t.entries
      → IsWriting taken case lines (record search { trail = t }) first now
  writing_on at t counts wider = record { log = at.log; leads = at.leads; under_way = settled_on search t at.under_way counts wider }

  pub rest_on : {ks ls : List Kind} {b d : Bool} → IsWriting taken case lines search first now → (t : Trace) → IsWhole ks b → ls ≡ ks → d ≡ b → IsQuiet case ls d (trace.box_of t)
      → (HasEveryKind ls → IsTrue d → IsOnPath case (path_at search) (trace.box_of search.trail) → IsClosed case (path_at search) (trace.box_of t)) → IsAtRest case (record search { trail = t })
  rest_on {ks} {ls} {b} {d} at t whole same also quiet closed =
      let every : HasEveryKind ls = subst (λ (x : List Kind). HasEveryKind x) (sym same) whole.every in
      let asked : IsTrue d = subst (λ (x : Bool). IsTrue x) (sym also) whole.asked in
      at_rest case search t d every asked quiet (closed every asked (path_on at.under_way))

  -- the branch line was handed out
  module _ {mid : S} (choice : Choice) (at : IsWriting taken case lines search first mid) (is : IsBranching case search choice) (left : search.branches < search.budget) where
    pub branch_stopped : taken mid (Branch Fix choice.carrier choice.at) now → IsStopped taken case search.budget first now
    branch_stopped took = record { log = at.log ++ Branch Fix choice.carrier choice.at ∷ []; leads = and_then at.leads took; started = branch_started choice at.under_way is left }

    pub branch_failed : (failed : S → LogLine → S → Type 0) → failed mid (Branch Fix choice.carrier choice.at) now → IsFailed taken failed case search.budget first now
    branch_failed failed fails = record {
      log = at.log ++ Branch Fix choice.carrier choice.at ∷ [];
      leads = record { before = at.log; line = Branch Fix choice.carrier choice.at; are = refl; mid = mid; leads = at.leads; fails = fails };
      started = branch_started choice at.under_way is left;
    }

    pub branch_out : (new : Search) → taken mid (Branch Fix choice.carrier choice.at) now
        → new.levels.items ≡ search.levels.items ++ left_level choice (length search.trail.entries) ∷ []
        → new.trail ≡ record search.trail { entries = decided (left_side Fix choice.carrier choice.at) (sets.size_of search.trail.counts choice.carrier) ++ search.trail.entries }
        → new.lines ≡ search.lines + 1 → new.branches ≡ search.branches + 1 → new.budget ≡ search.budget → IsWriting taken case lines new first now
    branch_out new took levels trail counted branches budget = record {
      log = at.log ++ Branch Fix choice.carrier choice.at ∷ [];
      leads = and_then at.leads took;
      under_way = branched new choice at.under_way is left levels trail counted branches budget;
    }
