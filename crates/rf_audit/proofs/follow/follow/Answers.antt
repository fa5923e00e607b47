use Rattle.std.proofs.Common.{◌≡◌, ◌∙◌, ◌<◌, ◌+◌, Bool, List, sym, ap, subst, arith, length, take, drop, reverse, get_or, true, false, Some, None, if◌then◌else◌}
use Rattle.std.proofs.lemmas.List.Sums.{count_by_more_yes, count_by_more_no}
use Rattle.rf_log.specs.declared.cond.Cond.{Cond}
use Rattle.rf_log.specs.declared.line.LogLine.{LogLine}
use Rattle.rf_log.specs.Walk.{Tree, walk, cause_of, tree_after, is_branch}
use Rattle.rf_log.specs.Solved.{IsHonestLine}
use Rattle.rf_show.specs.Case.{case_of}
use Rattle.rf_audit.specs.Left.{IsLeft}
use Rattle.rf_checker.proofs.CheckLaws.{walk_step, tests_passed}
use Rattle.rf_audit.specs.Follow.{Tells, refusal_at}
use Rattle.rf_audit.proofs.FollowLemmas.{refusal-here, refused-here, dishonest-here, on-here}
use Rattle.rf_audit.proofs.follow.follow.Goals as goal
use Rattle.rf_audit.proofs.follow.follow.Goals.{then-is_branch, else-is_branch}

pub returns-in-Some : goal.returns-in-Some
returns-in-Some c = c.loop-i.invariant.same _
    (refused-here (case_of c.args.show.now) c.args.lines.now c.loop-i.i c.index-lines-i.result _ c.args.verdict
    (omega arith) c.index-lines-i.is c.loop-i.invariant.walked c.in-Some.cause (sym c.refusal_at.ensures ∙ c.in-Some.is))

pub is_honest-requires : goal.is_honest-requires
is_honest-requires c =
    let left = c.loop-i.invariant.left c.if-prove.false in
    let none = sym (refusal-here (case_of c.args.show.now) c.args.lines.now c.loop-i.i c.index-lines-i.result _ c.args.verdict (omega arith) c.index-lines-i.is c.loop-i.invariant.walked)
    ∙ (sym c.refusal_at.ensures ∙ c.in_default.is) in
    let passed = tests_passed (case_of c.args.show.now) (take c.loop-i.i c.args.lines.now) (reverse c.loop-i.path.items) c.index-lines-i.result
    (subst (λ (b : Bool). cause_of (case_of c.args.show.now) (take c.loop-i.i c.args.lines.now)
    (if b then Some (reverse c.loop-i.path.items) else None) c.index-lines-i.result ≡ None) c.if-prove.false none) in
    record { table = c.requires.table; sized = left.sized; fixed = left.known; known = passed.known; fits = passed.fit }

pub keep_up-requires-clause-sized : goal.keep_up-requires-clause-sized
keep_up-requires-clause-sized c = (c.is_honest.ensures.left (reverse c.loop-i.path.items) (c.loop-i.invariant.left c.if-prove.false)).sized

pub returns-then-not-is_honest : goal.returns-then-not-is_honest
returns-then-not-is_honest c = c.loop-i.invariant.same _
    (dishonest-here (case_of c.args.show.now) c.args.lines.now c.loop-i.i c.index-lines-i.result _ c.args.verdict (omega arith) c.index-lines-i.is c.loop-i.invariant.walked
    (sym c.refusal_at.ensures ∙ c.in_default.is)
    (subst (λ (b : Bool). IsHonestLine (case_of c.args.show.now) (if b then Some (reverse c.loop-i.path.items) else None) c.index-lines-i.result → ⊥) (sym c.if-prove.false)
    (subst (Tells _) c.if-not-is_honest.true (c.is_honest.ensures.honest (reverse c.loop-i.path.items) (c.loop-i.invariant.left c.if-prove.false)))))

pub loop-i-preserved : goal.loop-i-preserved
loop-i-preserved c =
    let case = case_of c.args.show.now in
    let lines = c.args.lines.now in
    let i = c.loop-i.i in
    let line = c.index-lines-i.result in
    let path = c.loop-i.path.items in
    let low : i < length lines = omega arith in
    let tree : Tree = if c.loop-i.open then Some (reverse path) else None in
    let next : Tree = if c.in_ok-open.open then Some (reverse c.grow.new.path.items) else None in
    let is_open : tree ≡ Some (reverse path) = ap (λ (b : Bool). if b then Some (reverse path) else None) c.if-prove.false in
    let said : refusal_at c.args.verdict (i + 1) ≡ None = sym c.refusal_at.ensures ∙ c.in_default.is in
    let after : tree_after (Some (reverse path)) line ≡ next = c.in_ok-open.ensures in
    let none_at : cause_of case (take i lines) (Some (reverse path)) (get_or lines i line) ≡ None =
    ap (λ (l : LogLine). cause_of case (take i lines) (Some (reverse path)) l) (sym c.index-lines-i.is) ∙ ap (λ (t : Tree). cause_of case (take i lines) t line) (sym is_open)
    ∙ sym (refusal-here case lines i line tree c.args.verdict low c.index-lines-i.is c.loop-i.invariant.walked) ∙ said in
    let after_at : tree_after (Some (reverse path)) (get_or lines i line) ≡ next = ap (λ (l : LogLine). tree_after (Some (reverse path)) l) (sym c.index-lines-i.is) ∙ after in
    let kind : c.is_branch.result ≡ is_branch (get_or lines i line) = c.is_branch.ensures ∙ ap is_branch c.index-lines-i.is in
    record {
      same = λ found on. c.loop-i.invariant.same found (on-here case lines i line tree c.args.verdict low c.index-lines-i.is c.loop-i.invariant.walked next found said
          (subst (λ (t : Tree). IsHonestLine case t line) (sym is_open)
          (subst (Tells _) c.if-not-is_honest.false (c.is_honest.ensures.honest _ (c.loop-i.invariant.left c.if-prove.false)))) (ap (λ (t : Tree). tree_after t line) is_open ∙ after) on);
      walked = walk_step case lines i line (reverse path) next _ low none_at after_at
          (ap (λ (t : Tree). walk case (take i lines) t (drop i lines)) (sym is_open) ∙ c.loop-i.invariant.walked);
      left = λ opens. subst (λ (xs : List Cond). IsLeft case (reverse xs) c.keep_up.new.left.fixed.items c.keep_up.new.left.sets.items) c.as_slice.ensures.value
          (c.in_ok-keep_up.ensures (reverse path) (c.is_honest.ensures.left (reverse path) (c.loop-i.invariant.left c.if-prove.false))
          (after ∙ ap (λ (b : Bool). if b then Some (reverse c.grow.new.path.items) else None) opens ∙ ap (λ (xs : List Cond). Some (reverse xs)) (sym c.as_slice.ensures.value)));
      count = elim c.if-is_branch.branch [
        | then-is_branch w ↦ w.branchings-is ∙ (ap (λ n. n + 1) c.loop-i.invariant.count ∙ sym (count_by_more_yes is_branch lines i line low (sym kind ∙ w.if-is_branch.true)))
        | else-is_branch w ↦ w.branchings-is ∙ (c.loop-i.invariant.count ∙ sym (count_by_more_no is_branch lines i line low (sym kind ∙ w.if-is_branch.false)))
      ];
      few = elim c.if-is_branch.branch [
        | then-is_branch w ↦ omega (arith, c.loop-i.invariant.few, w.branchings-is)
        | else-is_branch w ↦ omega (arith, c.loop-i.invariant.few, w.branchings-is)
      ];
    }
