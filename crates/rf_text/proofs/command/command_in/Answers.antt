use Rattle.std.proofs.Common.{rules}
use Rattle.rf_text.proofs.WordLemmas.{first_text}
use Rattle.rf_text.proofs.command.command_in.Goals as goal
use Rattle.rf_base.proofs.TextLaws.{ok_from_utf8}

pub returns-in_err-verb : goal.returns-in_err-verb
returns-in_err-verb c =
    let is = c.in_ok-words.ensures in
    let first = c.in_ok-next.ensures in
    let text = first_text c.args.line.now c.in_ok-next.field-0.now c.next.new.self (search rules) in
    let ok = ok_from_utf8 _ _ _ c.from_utf8.result text c.from_utf8.ensures.cases in
    absurd (search (rules, ok))
