use Rattle.std.proofs.Common.{◌≡◌, ◌<◌, ◌-◌, ◌++◌, length, All}
use Rattle.rf_spares.specs.Fields.{IsField, channels_of}
use Rattle.rf_spares.specs.Searches.{site}
use Rattle.rf_spares.specs.Spare.{chosen}
use Rattle.rf_spares.proofs.SpareLemmas.{ats_with, left_of}
use Rattle.rf_spares.proofs.choice.take.Given as goal

abbrev pub invariant-loop-turn : goal.invariant-loop-turn
invariant-loop-turn l = record {
  known : IsField l.field;
  crowd : l.field.crowd ≡ l.initial.field.crowd;
  ats : l.field.ats.items ≡ ats_with (site l.initial.field.crowd) l.taken.items;
  many : length l.taken.items ≡ l.turn;
  within : All (λ k. k < length (channels_of l.initial.field)) l.taken.items;
  rest : chosen l.initial.field.crowd.show.now l.initial.field.crowd.profile l.initial.field.crowd.zone l.count
      ≡ l.taken.items ++ left_of (site l.initial.field.crowd) l.taken.items (l.count - l.turn) l.from;
}
