use Rattle.std.proofs.Common.{refl}
use Rattle.rf_editor.proofs.TrailLemmas.{pushed, pushed_leads}
use Rattle.rf_editor.proofs.editor.Editor.apply.Goals as goal

pub returns-in-Ok-clause-ok : goal.returns-in-Ok-clause-ok
returns-in-Ok-clause-ok c =
    let before = c.self.inside in
    rw (
      ← c.self.view_is,
      c.in-Ok.ensures.after,
      c.push.ensures,
      c.reserve.ensures.items,
      c.clear.ensures.items,
      pushed before.earlier.items c.in-Ok.undo before.show c.apply.new.self c.in-Ok.ensures.undo,
    ) refl

pub invariant_of-self-in-Ok : goal.invariant_of-self-in-Ok
invariant_of-self-in-Ok c =
    let before = c.self.inside in
    rw (c.push.ensures, c.reserve.ensures.items, c.clear.ensures.items) (pushed_leads before.earlier.items c.in-Ok.undo before.show c.apply.new.self c.in-Ok.ensures.undo c.self.invariant.0, tt)
