use Rattle.std.proofs.Common.{◌≡◌, ◌∙◌, Ok, IfSome, ◌∷◌, length, string_bytes, ap, subst, sym, arith}
use Rattle.rf_demo.specs.Lines.{demo_lines}
use Rattle.rf_rules.specs.Analyses.{analysed}
use Rattle.rf_session.specs.Demonstrated.{Plays}
use Rattle.rf_session.proofs.Demonstrating.{GoesOn, GoesOn-end, GoesOn-line}
use Rattle.rf_session.proofs.demo.play.Goals as goal

pub loop-machine-preserved : goal.loop-machine-preserved
loop-machine-preserved c =
    let before = c.loop-machine.invariant in
    let next = subst (λ o. IfSome o (λ line. c.loop-machine.script ≡ string_bytes line ∷ c.next.new.self)) c.in-Some.is c.in_ok-line.ensures.line in
    let plays = subst (λ bytes. Plays bytes c.loop-machine.machine c.in_ok-refusal.refusal c.play_line.new.machine) c.as_bytes.ensures.value c.in_ok-refusal.ensures in
    let goes = GoesOn-line (demo_lines c.args.seed c.args.count) _ _ _ _ _ _ _ next plays before.goes_on in
    record {
      goes_on = subst (GoesOn (demo_lines c.args.seed c.args.count) c.next.new.self c.play_line.new.machine) (sym c.with_refusal-refused.ensures.refused) goes;
      counted = omega (arith, before.counted, ap length next);
      many = before.many;
      few = omega (arith, before.few, c.with_refusal-refused.ensures.within);
    }

pub returns : goal.returns
returns c =
    let before = c.loop-machine.invariant in
    let ended = c.in_ok-line.ensures.end (ap Ok c.in_default.is) in
    record {
      last = c.loop-machine.machine;
      played = GoesOn-end (demo_lines c.args.seed c.args.count) _ _ _ ended before.goes_on;
      lines = omega (arith, before.counted, before.many, ap length ended);
      carriers = ap length (c.carriers.ensures.value ∙ ap (λ s. s.carriers) (c.show.ensures ∙ ap (λ h. h.show) c.editor-editor.ensures));
      conflicts = ap (λ a. a.total) (c.conflicts.ensures ∙ ap (λ h. analysed h.show) c.editor-editor.ensures);
    }
