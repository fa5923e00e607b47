use Rattle.std.proofs.Common.{ℕ, true, ◌<◌, ◌≤◌, ◌&&◌, List, [], ◌∷◌, ◌++◌, length, refl, ◌∙◌, arith}
use Rattle.std.specs.List.{list_all}
use Rattle.std.proofs.lemmas.Bool.{and_from, lt-ltb, le-leb}
use Rattle.std.proofs.lemmas.List.{length_push}
use Rattle.std.proofs.lemmas.List.Folds.{list_all-append}
use Rattle.rf_zones.specs.Times.{IsTimes, is_interval}

pub IsTimes-push : (times : List (ℕ × ℕ)) (from to : ℕ) → IsTimes times → from < to → to ≤ 10080 → length times < 8 → IsTimes (times ++ (from, to) ∷ [])
IsTimes-push times from to ok rises within room = record {
  few = omega (arith, length_push times (from, to));
  valid =
      list_all-append is_interval times ((from, to) ∷ [])
      ∙ and_from (list_all is_interval times) (is_interval (from, to) && true) ok.valid
      (rw (lt-ltb from to rises, le-leb to 10080 within) refl);
}
