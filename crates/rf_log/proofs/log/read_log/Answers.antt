use Rattle.std.proofs.Common.{◌≡◌, ◌∙◌, ◌++◌, ◌∷◌, [], arith, refl, sym, length-append}
use Rattle.rf_log.proofs.BelowLemmas.{log_lines_few, log_more, line_below, no_log}
use Rattle.rf_log.proofs.ReadingLemmas.{log-more}
use Rattle.rf_log.proofs.log.read_log.Goals as goal

pub loop-line-init : goal.loop-line-init
loop-line-init c =
    let few = log_lines_few c.args.bytes.now in
    record {
      is = rw (c.new-names.ensures, c.new-lines.ensures.items, c.of-rest.ensures) refl;
      log = rw (c.new-names.ensures, c.new-lines.ensures.items) no_log;
      few = rw (c.new-lines.ensures.items, c.of-rest.ensures) (omega arith);
    }

pub loop-line-preserved : goal.loop-line-preserved
loop-line-preserved c =
    let said = rw c.in-Some-2.is at c.in_ok-line.ensures in
    let read = sym said in
    let kept : c.keep.new.lines.items ≡ c.loop-line.lines.items ++ c.in-Some-2.line ∷ [] = c.in_ok-keep.ensures in
    let some = c.in-Some.ensures in
    let few = rw some at c.loop-line.invariant.few in
    record {
      is = rw kept (c.loop-line.invariant.is ∙ log-more _ _ _ _ _ c.in-Some.line.now _ some read);
      log = rw kept (log_more _ _ _ _ c.loop-line.invariant.log (line_below _ c.in-Some.line.now _ _ read) (omega (arith, few, c.requires)));
      few = rw kept (simp length-append (omega (arith, few)));
    }
