use Rattle.std.proofs.Common.{◌∙◌, arith}
use Rattle.rf_terms.specs.declared.kind.Kind.TheVariants.{Spacing}
use Rattle.rf_problem.specs.Problem.{case_of}
use Rattle.rf_propagate.specs.Laws.{same}
use Rattle.rf_propagate.proofs.BothLaws.{grows_on}
use Rattle.rf_props.proofs.KeptLemmas.{GoesOn, few_on, kinds_on}
use Rattle.rf_props.proofs.SettleLemmas.{kinds_after, first_and_rest, others_done}
use Rattle.rf_props.proofs.round.+sweep_kinds.Goals as goal

pub returns-in-empty-clause-sound : goal.returns-in-empty-clause-sound
returns-in-empty-clause-sound t c = λ lines. same

pub sweep_kinds-requires : goal.sweep_kinds-requires
sweep_kinds-requires t c =
    let on : GoesOn (case_of c.args.problem.now) c.args.trail.now c.sweep_kind.new.trail = record { counts = c.sweep_kind.ensures.counts; sound = c.sweep_kind.ensures.sound } in
    let is = first_and_rest c.args.kinds.now Spacing c.in-len1-up.len_at_least in (
      omega (arith, c.decreases, c.in-len1-up.len_at_least),
      (
        c.sweep_kind.ensures.counts ∙ c.requires.counts,
        (
          c.in_ok-sweep_kind-in-len1-up.ensures.live,
          (
            c.requires.fresh,
            (
              few_on on c.requires.few,
              (
                few_on on c.requires.few_known,
                kinds_on on c.requires.counts c.requires.few_known _ (others_done c.args.kinds.now _ _ is c.requires.done),
              ),
            ),
          ),
        ),
      ),
    )

pub returns-in_ok-sweep_kind-in-len1-up-clause-sound : goal.returns-in_ok-sweep_kind-in-len1-up-clause-sound
returns-in_ok-sweep_kind-in-len1-up-clause-sound t c = λ lines. grows_on (c.sweep_kind.ensures.sound lines) (c.sweep_kinds.ensures.sound lines)

pub returns-in_ok-sweep_kind-in-len1-up-clause-swept : goal.returns-in_ok-sweep_kind-in-len1-up-clause-swept
returns-in_ok-sweep_kind-in-len1-up-clause-swept t c =
    let first : GoesOn (case_of c.args.problem.now) c.args.trail.now c.sweep_kind.new.trail = record { counts = c.sweep_kind.ensures.counts; sound = c.sweep_kind.ensures.sound } in
    kinds_after {case = case_of c.args.problem.now} {mid = c.sweep_kind.new.trail} {now = c.sweep_kinds.new.trail} c.args.kinds.now _ _ c.sweep_kinds.result
    (first_and_rest c.args.kinds.now _ c.in-len1-up.len_at_least)
    (c.sweep_kind.ensures.counts ∙ c.requires.counts) (few_on first c.requires.few) (record { counts = c.sweep_kinds.ensures.counts; sound = c.sweep_kinds.ensures.sound })
    c.in_ok-sweep_kind-in-len1-up.ensures.swept c.sweep_kinds.ensures.swept
