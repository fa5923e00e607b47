-- Lines that stay among others.
use Rattle.std.proofs.Common.{List, subst, sym}
use Rattle.std.specs.Prelude.{Contains}
use Rattle.std.proofs.lemmas.List.Elements.{Contains-append_left}
use Rattle.rf_log.specs.Hints.{Line}
use Rattle.rf_propagate.specs.Laws.{HasMore}
use Rattle.rf_nogoods.specs.Removals.{AreAmong}

pub among_last : (held lines others : List Line) → AreAmong held lines → HasMore lines others → AreAmong held others
among_last held lines others among more = record {
  each = λ line has. subst (λ (ls : List Line). Contains ls line) (sym more.1) (Contains-append_left lines more.0 line (among.each line has));
}
