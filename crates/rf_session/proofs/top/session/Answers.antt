use Rattle.std.proofs.Common.{[], ap, sym, ◌∙◌}
use Rattle.std.proofs.lemmas.Bool.{false≢true}
use Rattle.rf_base.specs.Input.{Input}
use Rattle.rf_session.proofs.Starting.{Serves-none, Serves-served}
use Rattle.rf_session.proofs.top.session.Goals as goal

pub returns-in_default-clause-ends : goal.returns-in_default-clause-ends
returns-in_default-clause-ends g c = Serves-none _ _

pub returns-in_default-new-clause-ends : goal.returns-in_default-new-clause-ends
returns-in_default-new-clause-ends g c = Serves-none _ _

pub serve-requires : goal.serve-requires
serve-requires g c = λ ended. absurd (false≢true (sym (ap (λ (i : Input). i.ended) (c.in-Ok.ensures.input [])) ∙ ended))

pub returns-clause-ends : goal.returns-clause-ends
returns-clause-ends g c =
    Serves-served c.serve.result c.in-Ok-new.machine c.serve.new.machine _ _ c.in-Ok.reader c.serve.new.reader _ _
    c.in-Ok-new.ensures c.in-Ok.ensures.input c.serve.ensures.drained c.serve.ensures.session
