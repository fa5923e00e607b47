use Rattle.std.proofs.Common.{◌≡◌, ◌<◌, ◌+◌, ◌∙◌, Bool, List, refl, sym, ap, subst, arith, length, take, drop, reverse, get_or, not, Some, None, if◌then◌else◌}
use Rattle.std.specs.List.{All}
use Rattle.std.proofs.lemmas.List.Sums.{count_by_more_yes, count_by_more_no}
use Rattle.rf_log.specs.declared.cond.Cond.{Cond}
use Rattle.rf_log.specs.declared.line.LogLine.{LogLine}
use Rattle.rf_log.specs.declared.verdict.Cause.TheVariants.{Closed}
use Rattle.rf_log.specs.Walk.{Tree, walk, cause_of, tree_after, is_branch}
use Rattle.rf_show.specs.Case.{case_of}
use Rattle.rf_checker.specs.Boxes.{Fits}
use Rattle.rf_checker.specs.Lines.{HasTargets, TreeFits}
use Rattle.rf_checker.proofs.CheckLaws.{walk_step, walk_refused, tests_passed, lines_push, grown_fits, path_fits, none_of, if_not}
use Rattle.rf_checker.proofs.walk.walk_lines.Goals as goal
use Rattle.rf_checker.proofs.walk.walk_lines.Goals.{then-is_branch, else-is_branch}

pub cause-requires-clause-path : goal.cause-requires-clause-path
cause-requires-clause-path c = subst (λ (xs : List Cond). All (Fits (case_of c.args.show.now)) xs) (sym c.as_slice.ensures.value)
    (path_fits (case_of c.args.show.now) c.loop-i.closed c.loop-i.path.items c.if-closed.false c.loop-i.invariant.tree)

pub loop-i-preserved : goal.loop-i-preserved
loop-i-preserved c =
    let case = case_of c.args.show.now in
    let lines = c.args.lines.now in
    let i = c.loop-i.i in
    let line = c.index-lines-i.result in
    let path = c.loop-i.path.items in
    let low : i < length lines = omega arith in
    let next : Tree = if not c.in_ok-closed.field-0 then None else Some (reverse c.grow.new.path.items) in
    let first : cause_of case (take i lines) (Some (reverse c.as_slice.result.now)) line ≡ None = sym c.in_ok-cause.ensures ∙ none_of c.in_ok-cause.field-0 c.in_default.not-Some in
    let none : cause_of case (take i lines) (Some (reverse path)) (get_or lines i line) ≡ None =
    ap (λ (l : LogLine). cause_of case (take i lines) (Some (reverse path)) l) (sym c.index-lines-i.is)
    ∙ (ap (λ (xs : List Cond). cause_of case (take i lines) (Some (reverse xs)) line) (sym c.as_slice.ensures.value) ∙ first) in
    let after : tree_after (Some (reverse path)) (get_or lines i line) ≡ next =
    ap (λ (l : LogLine). tree_after (Some (reverse path)) l) (sym c.index-lines-i.is) ∙ (c.in_ok-closed.ensures ∙ if_not c.in_ok-closed.field-0 (Some (reverse c.grow.new.path.items)) None) in
    let before = ap (λ (b : Bool). walk case (take i lines) (if b then None else Some (reverse path)) (drop i lines)) (sym c.if-closed.false) ∙ c.loop-i.invariant.same in
    let open_tree : All (Fits case) (reverse path) = subst (λ (b : Bool). TreeFits case (if b then None else Some (reverse path))) c.if-closed.false c.loop-i.invariant.tree in
    let pass = tests_passed case (take i lines) (reverse path) (get_or lines i line) none in
    let kind : c.is_branch.result ≡ is_branch (get_or lines i line) = c.is_branch.ensures ∙ ap is_branch c.index-lines-i.is in
    record {
      same = walk_step case lines i line (reverse path) next _ low none after before;
      lines = lines_push case lines i line low c.loop-i.invariant.lines pass;
      tree = subst (λ (t : Tree). TreeFits case t) after (grown_fits case (reverse path) (get_or lines i line) pass open_tree);
      count = elim c.if-is_branch.branch [
        | then-is_branch w ↦ w.branchings-is ∙ (ap (λ n. n + 1) c.loop-i.invariant.count ∙ sym (count_by_more_yes is_branch lines i line low (sym kind ∙ w.if-is_branch.true)))
        | else-is_branch w ↦ w.branchings-is ∙ (c.loop-i.invariant.count ∙ sym (count_by_more_no is_branch lines i line low (sym kind ∙ w.if-is_branch.false)))
      ];
      few = elim c.if-is_branch.branch [
        | then-is_branch w ↦ omega (arith, c.loop-i.invariant.few, w.branchings-is)
        | else-is_branch w ↦ omega (arith, c.loop-i.invariant.few, w.branchings-is)
      ];
    }

pub cause-requires-clause-lines : goal.cause-requires-clause-lines
cause-requires-clause-lines c = c.loop-i.invariant.lines

pub cause-requires-clause-targets : goal.cause-requires-clause-targets
cause-requires-clause-targets c =
    subst HasTargets (sym c.index-lines-i.is) (c.requires.targets c.loop-i.i c.index-lines-i.result c.loop-i-test.true)

pub returns-then-closed : goal.returns-then-closed
returns-then-closed c =
    let case = case_of c.args.show.now in
    let lines = c.args.lines.now in
    let i = c.loop-i.i in
    walk_refused case lines i c.index-lines-i.result None Closed _ c.loop-i-test.true refl
    (ap (λ (b : Bool). walk case (take i lines) (if b then None else Some (reverse c.loop-i.path.items)) (drop i lines)) (sym c.if-closed.true) ∙ c.loop-i.invariant.same)

pub returns-in-Some : goal.returns-in-Some
returns-in-Some c =
    let case = case_of c.args.show.now in
    let lines = c.args.lines.now in
    let i = c.loop-i.i in
    let line = c.index-lines-i.result in
    let path = c.loop-i.path.items in
    let found : cause_of case (take i lines) (Some (reverse path)) (get_or lines i line) ≡ Some c.in-Some.cause =
    ap (λ (l : LogLine). cause_of case (take i lines) (Some (reverse path)) l) (sym c.index-lines-i.is)
    ∙ (ap (λ (xs : List Cond). cause_of case (take i lines) (Some (reverse xs)) line) (sym c.as_slice.ensures.value) ∙ (sym c.in_ok-cause.ensures ∙ c.in-Some.is)) in
    walk_refused case lines i line (Some (reverse path)) c.in-Some.cause _ c.loop-i-test.true found
    (ap (λ (b : Bool). walk case (take i lines) (if b then None else Some (reverse path)) (drop i lines)) (sym c.if-closed.false) ∙ c.loop-i.invariant.same)
