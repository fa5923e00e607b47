use Rattle.std.proofs.Common.{◌∙◌, ◌<◌, List, length, sym, ap, subst, arith, get_or, Some, slice_get}
use Rattle.std.proofs.lemmas.Option.{slice_get-get_or, get_or_from_slice_get}
use Rattle.rf_terms.specs.declared.kind.Kind.{Kind}
use Rattle.rf_terms.specs.declared.kind.Kind.TheVariants.{Spacing}
use Rattle.rf_terms.specs.Kinds.{kinds, roles_of}
use Rattle.rf_show.specs.Case.{case_of}
use Rattle.rf_audit.specs.Left.{IsClearedWith}
use Rattle.rf_audit.proofs.Struck.{falls-more}
use Rattle.rf_audit.proofs.Sets.{or-last}
use Rattle.rf_audit.proofs.Spreads.{still, idle-cleared}
use Rattle.rf_audit.proofs.spread.spread.Goals as goal
use Rattle.rf_audit.proofs.spread.spread.Goals.{then-not-is_idle, else-not-is_idle}

pub loop-number-preserved : goal.loop-number-preserved
loop-number-preserved c =
    let fixed = c.args.fixed.now in
    elim c.if-not-is_idle.branch [
      | then-not-is_idle w ↦ rw w.sets-is record {
        falls = falls-more c.loop-number.invariant.falls w.spread_kind.ensures.falls;
        cleared = λ i kind place low is. or-last i c.loop-number.number (λ below low_place roles at full low_at other fix at_x.
            still w.spread_kind.ensures.falls kind roles place (c.loop-number.invariant.cleared i kind place below is low_place roles at full low_at other fix at_x)) (λ here.
            let same = ap (λ (xs : List Kind). get_or xs c.loop-number.number Spacing) c.kinds-kind-items.ensures
            ∙ get_or_from_slice_get kinds c.loop-number.number kind Spacing (ap (slice_get kinds) (sym here) ∙ is) in
            subst (λ (one : Kind). place < roles_of one → IsClearedWith (case_of c.args.show.now) fixed w.spread_kind.new.sets.items c.args.x one place) same
            (w.spread_kind.ensures.cleared place)) low;
      }
      | else-not-is_idle w ↦ rw w.sets-is record {
        falls = c.loop-number.invariant.falls;
        cleared = λ i kind place low is. or-last i c.loop-number.number (λ below. c.loop-number.invariant.cleared i kind place below is)
            (λ here _. idle-cleared _ _ _ c.args.x kind place (λ d low_d. c.is_idle.ensures w.if-not-is_idle.false d kind low_d (ap (slice_get kinds) (sym here) ∙ is))) low;
      }
    ]

pub returns-clause-cleared : goal.returns-clause-cleared
returns-clause-cleared c = λ kind place among low.
    c.loop-number.invariant.cleared among.0 kind place (omega (arith, among.1, c.loop-number-test.false, ap length c.kinds-kind-items.ensures))
    (slice_get-get_or kinds among.0 kind among.1 ∙ ap Some among.2) low
