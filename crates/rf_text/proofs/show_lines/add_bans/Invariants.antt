use Rattle.std.proofs.Common.{map, take}
use Rattle.rf_text.specs.Shows.{Adds, ban_line}
use Rattle.rf_text.proofs.show_lines.add_bans.Given as goal

abbrev pub invariant-loop-ban : goal.invariant-loop-ban
invariant-loop-ban l = Adds l.initial.lines l.lines (map ban_line (take l.ban-index l.bans))
