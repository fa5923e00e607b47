use Rattle.std.proofs.Common.{◌∙◌, ap, subst, sym, Err, take}
use Rattle.std.specs.Io.KnownBytes.{Appends}
use Rattle.rf_solving.specs.Solving.{IsBegun, IsEnded}
use Rattle.rf_session.specs.declared.machine.Stop.TheVariants.{Memory}
use Rattle.rf_session.proofs.Searching.{leaves_here, of_ok, searched_reply, verdict_cut, whole_cut}
use Rattle.rf_session.proofs.search.search.Goals as goal

pub returns-in-Err-Memory-clause-cut : goal.returns-in-Err-Memory-clause-cut
returns-in-Err-Memory-clause-cut g c =
    let some = c.write_search.ensures.memory (c.in-Err-Memory.is ∙ ap (λ e. Err e) c.in-Err-Memory.field-0-is) in
    whole_cut c.args.editor.now c.args.places Memory c.args.budget some.0 _ _ (subst (λ show. IsBegun show c.args.budget some.0) c.show.ensures some.2) some.1

pub returns-then-is_err-clause-cut : goal.returns-then-is_err-clause-cut
returns-then-is_err-clause-cut g c =
    let found = c.in-Ok.ensures.found in
    whole_cut c.args.editor.now c.args.places Memory c.args.budget found.1 _ _
    (subst (λ show. IsBegun show c.args.budget found.1) c.show.ensures found.3.begun) found.2

pub returns-in-Ok-put-clause-searched : goal.returns-in-Ok-put-clause-searched
returns-in-Ok-put-clause-searched g c =
    let found = c.in-Ok.ensures.found in
    searched_reply c.args.editor.now c.apply_plan.new.editor c.args.budget c.args.places found.0 found.1 c.in-Ok.found.verdict _ _ _
    (subst (λ show. IsEnded show c.args.budget found.0 found.1 c.in-Ok.found.verdict) c.show.ensures found.3)
    (leaves_here c.args.editor.now _ c.args.places _ c.show.result.now found.0 c.show.ensures found.4
    (of_ok c.apply_plan.result _ (sym c.if-is_err.ensures.value) c.apply_plan.ensures.leaves))
    found.2
    (subst (λ piece. Appends (g.O.Sink.contents c.write_search.new.output) (g.O.Sink.contents c.put.new.out) piece) c.as_slice.ensures c.in-Ok-put.ensures.whole)

pub returns-clause-cut : goal.returns-clause-cut
returns-clause-cut g c =
    let found = c.in-Ok.ensures.found in
    let part = c.in-Err.ensures.part in
    verdict_cut c.args.editor.now c.apply_plan.new.editor c.args.budget part.count c.args.places found.0 found.1 c.in-Ok.found.verdict _ _ _
    (subst (λ show. IsEnded show c.args.budget found.0 found.1 c.in-Ok.found.verdict) c.show.ensures found.3)
    (leaves_here c.args.editor.now _ c.args.places _ c.show.result.now found.0 c.show.ensures found.4
    (of_ok c.apply_plan.result _ (sym c.if-is_err.ensures.value) c.apply_plan.ensures.leaves))
    found.2
    (subst (λ piece. Appends (g.O.Sink.contents c.write_search.new.output) (g.O.Sink.contents c.put.new.out) (take part.count piece)) c.as_slice.ensures part.grew)
