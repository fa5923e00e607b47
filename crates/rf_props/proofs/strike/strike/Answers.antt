use Rattle.std.proofs.Common.{◌≡◌, ◌∙◌, ◌+◌, ◌<◌, ℕ, List, length, take, sym, ap, subst, arith, false, true, insert}
use Rattle.std.proofs.lemmas.List.Elements.{All-same}
use Rattle.rf_terms.specs.Kinds.{roles_of}
use Rattle.rf_domain.specs.Sets.{size_of}
use Rattle.rf_log.specs.Case.{is_instance, is_among}
use Rattle.rf_log.specs.declared.hint.Hint.TheVariants.{Rule}
use Rattle.rf_problem.specs.Problem.{case_of}
use Rattle.rf_problem.proofs.CaseLaws.{count_is}
use Rattle.rf_propagate.specs.Laws.{same}
use Rattle.rf_props.specs.Sweeps.{AreBroken, IsHarmless}
use Rattle.rf_props.proofs.StrikeLemmas.{known_insert, apart_of, clear_by, clear_other, rows_after, clear_after, rule_is, rule_step, small_roles}
use Rattle.rf_props.proofs.CountLemmas.{count_any}
use Rattle.rf_props.proofs.InsertLemmas.{length_insert}
use Rattle.rf_props.proofs.strike.strike.Goals as goal
use Rattle.rf_base.proofs.BoolLaws.{clash}

pub is_instance-requires-clause-known : goal.is_instance-requires-clause-known
is_instance-requires-clause-known c =
    All-same (λ x. x < length c.args.problem.now.carriers) _ _ c.with_target-all.ensures (known_insert _ c.args.others.now c.args.place c.args.target c.requires.known c.requires.target)

pub returns-then-not-is_instance-clause-sound : goal.returns-then-not-is_instance-clause-sound
returns-then-not-is_instance-clause-sound c = λ lines. same

pub returns-then-not-is_instance-clause-clear : goal.returns-then-not-is_instance-clause-clear
returns-then-not-is_instance-clause-clear c =
    let case = case_of c.args.problem.now in
    let known : c.args.target < length case.carriers = omega (arith, count_is c.args.problem.now, c.requires.target) in
    clear_other case c.args.trail.now c.args.kind (insert c.args.others.now c.args.place c.args.target) c.args.target c.requires.counts known
    (ap (is_instance case c.args.kind) (sym c.with_target-all.ensures) ∙ sym c.is_instance.ensures ∙ c.if-not-is_instance.true)

pub broken_range-requires-clause-known : goal.broken_range-requires-clause-known
broken_range-requires-clause-known c =
    All-same (λ x. x < length c.args.problem.now.carriers) _ _ c.with_target-all.ensures (known_insert _ c.args.others.now c.args.place c.args.target c.requires.known c.requires.target)

pub returns-in-None-clause-sound : goal.returns-in-None-clause-sound
returns-in-None-clause-sound c = λ lines. same

pub returns-in-None-clause-clear : goal.returns-in-None-clause-clear
returns-in-None-clause-clear c =
    let case = case_of c.args.problem.now in
    let known : c.args.target < length case.carriers = omega (arith, count_is c.args.problem.now, c.requires.target) in
    let none : IsHarmless case c.args.kind c.args.place (insert c.args.others.now c.args.place c.args.target) c.args.freqs.now c.args.target =
    subst (λ (rs : List ℕ). IsHarmless case c.args.kind c.args.place rs c.args.freqs.now c.args.target) c.with_target-all.ensures c.in-None.ensures in
    clear_by case c.args.trail.now c.args.kind c.args.place c.args.others.now c.args.freqs.now c.args.target c.requires.counts known c.requires.fixed
    (λ k here low broken. none.none k low broken)

pub returns-then-not-is_left-clause-sound : goal.returns-then-not-is_left-clause-sound
returns-then-not-is_left-clause-sound c = λ lines. same

pub returns-then-not-is_left-clause-clear : goal.returns-then-not-is_left-clause-clear
returns-then-not-is_left-clause-clear c =
    let case = case_of c.args.problem.now in
    let known : c.args.target < length case.carriers = omega (arith, count_is c.args.problem.now, c.requires.target) in
    let broken : AreBroken case c.args.kind c.args.place (insert c.args.others.now c.args.place c.args.target) c.args.freqs.now c.args.target c.in-Some.range.0 c.in-Some.range.1 =
    subst (λ (rs : List ℕ). AreBroken case c.args.kind c.args.place rs c.args.freqs.now c.args.target c.in-Some.range.0 c.in-Some.range.1) c.with_target-all.ensures c.in-Some.ensures in
    clear_by case c.args.trail.now c.args.kind c.args.place c.args.others.now c.args.freqs.now c.args.target c.requires.counts known c.requires.fixed
    (λ k here low breaking. clash here (c.is_left.ensures c.if-not-is_left.true k (broken.all k low breaking)))

pub padded-requires-clause-small : goal.padded-requires-clause-small
padded-requires-clause-small c =
    small_roles (length c.args.problem.now.carriers) _
    (All-same (λ x. x < length c.args.problem.now.carriers) _ _ c.with_target-all.ensures (known_insert _ c.args.others.now c.args.place c.args.target c.requires.known c.requires.target))
    c.requires.few

is_good : (c : goal.After-remove_because) → is_instance (case_of c.args.problem.now) c.args.kind (insert c.args.others.now c.args.place c.args.target) ≡ true
is_good c = ap (is_instance (case_of c.args.problem.now) c.args.kind) (sym c.with_target-all.ensures) ∙ sym c.is_instance.ensures ∙ c.if-not-is_instance.false

apart : (c : goal.After-remove_because) → is_among c.args.others.now c.args.target ≡ false
apart c = apart_of (case_of c.args.problem.now) c.args.kind c.args.others.now c.args.place c.args.target (is_good c)

known_target : (c : goal.After-remove_because) → c.args.target < length (case_of c.args.problem.now).carriers
known_target c = omega (arith, count_is c.args.problem.now, c.requires.target)

is_broken : (c : goal.After-remove_because)
    → AreBroken (case_of c.args.problem.now) c.args.kind c.args.place (insert c.args.others.now c.args.place c.args.target) c.args.freqs.now c.args.target c.in-Some.range.0 c.in-Some.range.1
is_broken c =
    subst (λ (rs : List ℕ). AreBroken (case_of c.args.problem.now) c.args.kind c.args.place rs c.args.freqs.now c.args.target c.in-Some.range.0 c.in-Some.range.1)
    c.with_target-all.ensures c.in-Some.ensures

roles_size : (c : goal.After-remove_because) → length (take (length c.args.others.now + 1) c.with_target-all.result) ≡ roles_of c.args.kind
roles_size c =
    let size : length (insert c.args.others.now c.args.place c.args.target) ≡ roles_of c.args.kind = omega (arith, length_insert c.args.others.now c.args.place c.args.target, c.requires.others) in
    ap length c.with_target-all.ensures ∙ size

pub returns-clause-sound : goal.returns-clause-sound
returns-clause-sound c = λ lines.
    let case = case_of c.args.problem.now in
    let first = c.in-Some.range.0 in
    let last = c.in-Some.range.1 in
    rule_step case lines c.args.trail.now c.remove_because.new.self c.args.target first last (Rule c.args.kind c.padded.result c.args.place first last)
    (rule_is case lines c.args.trail.now c.args.kind c.args.place c.args.others.now c.args.freqs.now c.padded.result c.args.target first last c.requires.counts
    (known_target c) c.requires.place c.requires.others
    (is_good c) c.requires.fixed (is_broken c)
    (ap (λ n. take n c.padded.result) (sym (roles_size c)) ∙ c.padded.ensures.same ∙ c.with_target-all.ensures)
    (λ i over. c.padded.ensures.zero i (omega (arith, roles_size c, over))))
    c.remove_because.result c.remove_because.ensures.ok c.remove_because.ensures.err

pub returns-clause-rows : goal.returns-clause-rows
returns-clause-rows c =
    let first = c.in-Some.range.0 in
    let last = c.in-Some.range.1 in
    rows_after c.args.trail.now c.remove_because.new.self c.args.others.now c.args.target first last (Rule c.args.kind c.padded.result c.args.place first last) (apart c)
    c.remove_because.result c.remove_because.ensures.ok c.remove_because.ensures.err

pub returns-clause-clear : goal.returns-clause-clear
returns-clause-clear c =
    let first = c.in-Some.range.0 in
    let last = c.in-Some.range.1 in
    clear_after (case_of c.args.problem.now) c.args.trail.now c.remove_because.new.self c.args.kind c.args.place c.args.others.now c.args.freqs.now c.args.target first last
    (Rule c.args.kind c.padded.result c.args.place first last) c.requires.counts (known_target c) (apart c) c.requires.fixed (is_broken c) c.remove_because.result c.remove_because.ensures.ok

pub remove_because-requires : goal.remove_because-requires
remove_because-requires c = record {
  ordered = c.in-Some.ensures.ordered;
  in_range = omega (arith, c.in-Some.ensures.known, ap (λ ns. size_of ns c.args.target) c.requires.counts, count_any (case_of c.args.problem.now) c.args.target);
}
