use Rattle.std.proofs.Common.{◌≡◌, ◌++◌, ◌∷◌, [], rules}
use Rattle.rf_editor.proofs.TrailLemmas.{pushed, pushed_leads, popped_leads, replaced, replaced_leads}
use Rattle.rf_editor.proofs.walk.walk.Goals as goal

pub returns-in-Ok-clause-came : goal.returns-in-Ok-clause-came
returns-in-Ok-clause-came c =
    rw (c.push.ensures, c.reserve.ensures.items) (pushed c.args.to.now.items c.in-Ok.back c.args.show.now c.back.new.self c.in-Ok.ensures.forth)

pub returns-in-Ok-clause-to : goal.returns-in-Ok-clause-to
returns-in-Ok-clause-to c =
    rw (c.push.ensures, c.reserve.ensures.items) (pushed_leads c.args.to.now.items c.in-Ok.back c.args.show.now c.back.new.self c.in-Ok.ensures.forth c.requires.to)

pub returns-in-Ok-clause-gone : goal.returns-in-Ok-clause-gone
returns-in-Ok-clause-gone c =
    let popped : c.args.from.now.items ≡ c.pop.new.self.items ++ c.in-Some.undo ∷ [] = search rules in
    rw popped (pushed c.pop.new.self.items c.in-Some.undo c.back.new.self c.args.show.now c.in-Ok.ensures.there)

pub returns-in-Ok-clause-from : goal.returns-in-Ok-clause-from
returns-in-Ok-clause-from c =
    let popped : c.args.from.now.items ≡ c.pop.new.self.items ++ c.in-Some.undo ∷ [] = search rules in
    popped_leads c.pop.new.self.items c.in-Some.undo c.back.new.self c.args.show.now c.in-Ok.ensures.there (rw popped at c.requires.from)

pub returns-in-Err-clause-from_stays : goal.returns-in-Err-clause-from_stays
returns-in-Err-clause-from_stays c =
    let popped : c.args.from.now.items ≡ c.pop.new.self.items ++ c.in-Some.undo ∷ [] = search rules in
    rw (c.push-in-Err.ensures, c.in-Err.ensures.unchanged, popped) (replaced c.pop.new.self.items c.in-Some.undo c.in-Err.same c.args.show.now c.in-Err.ensures.kept)

pub returns-in-Err-clause-from_leads : goal.returns-in-Err-clause-from_leads
returns-in-Err-clause-from_leads c =
    let popped : c.args.from.now.items ≡ c.pop.new.self.items ++ c.in-Some.undo ∷ [] = search rules in
    rw (c.push-in-Err.ensures, c.in-Err.ensures.unchanged) (replaced_leads c.pop.new.self.items c.in-Some.undo c.in-Err.same c.args.show.now c.in-Err.ensures.kept (rw popped at c.requires.from))
