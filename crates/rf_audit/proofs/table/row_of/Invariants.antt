use Rattle.std.proofs.Common.{◌≡◌, ◌<◌, ℕ, length, take, map}
use Rattle.rf_terms.specs.Kinds.{kinds}
use Rattle.rf_terms.specs.Forms.{AreFrequencies}
use Rattle.rf_log.specs.Case.{asked_by, carrier_of, is_allowed}
use Rattle.rf_show.specs.Case.{case_of}
use Rattle.rf_audit.specs.Left.{has}
use Rattle.rf_audit.proofs.table.row_of.Given as goal

abbrev pub invariant-loop-k : goal.invariant-loop-k
invariant-loop-k l = record {
  channels : l.freqs.items ≡ take l.k (carrier_of (case_of l.show) l.c).freqs;
  small : AreFrequencies l.freqs.items;
  full : length l.allowed.items ≡ l.k;
  allows : (j : ℕ) → j < l.k → has l.allowed.items j ≡ is_allowed (case_of l.show) l.c j;
}

abbrev pub invariant-loop-kind : goal.invariant-loop-kind
invariant-loop-kind l = l.asks.items ≡ map (λ kind. asked_by (case_of l.show) kind l.c) (take l.kind-index kinds)
