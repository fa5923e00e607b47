-- What was left when nothing more fell.
use Rattle.std.proofs.Common.{subst, sym}
use Rattle.std.specs.Prelude.{◌≡◌, List, Bool, Option, Some}
use Rattle.rf_terms.specs.declared.kind.Kind.{Kind}
use Rattle.rf_log.specs.Case.{Case, counts_of}
use Rattle.rf_domain.specs.Sets.{has, sizes}
use Rattle.rf_props.specs.Sweeps.{AreAllDone}

-- the sets, if there are any, are the case's
pub record IsOfCase (case : Case) (rest : Option (List (List Bool))) : Type 0 where
  pub each : (sets : List (List Bool)) → rest ≡ Some sets → sizes sets ≡ counts_of case

-- and with them nothing more of these kinds fell
pub record Rests (case : Case) (kinds : List Kind) (rest : Option (List (List Bool))) : Type 0 where
  pub sized : IsOfCase case rest
  pub done : (sets : List (List Bool)) → rest ≡ Some sets → AreAllDone case (has sets) kinds

-- with an equal case it is so too
pub rests_last : {case other : Case} {kinds : List Kind} {rest : Option (List (List Bool))} → Rests case kinds rest → other ≡ case → Rests other kinds rest
rests_last {case} {other} {kinds} {rest} rests same = subst (λ (x : Case). Rests x kinds rest) (sym same) rests
