-- How many broken instances there are.
use Rattle.std.proofs.Common.{◌≤◌, ◌<◌, ◌-◌, ◌^◌, map, Bool, ℕ, suc, zero, List, [], ◌∷◌, length, take, arith, Option, filter}
use Rattle.std.proofs.lemmas.List.{length-map}
use Rattle.std.proofs.Math.Nat.{pow-le-pow_right}
use Rattle.rf_terms.specs.Kinds.{roles_of}
use Rattle.rf_terms.specs.declared.kind.Kind.{Kind}
use Rattle.rf_show.specs.Show.{ShowData}
use Rattle.rf_show.specs.Limits.{most_carriers}
use Rattle.rf_rules.specs.Tuples.{tuples, upto}
use Rattle.rf_rules.specs.Conflicts.{conflict_of}
use Rattle.rf_rules.specs.declared.conflict.Conflict.{Conflict}
use Rattle.rf_rules.specs.Tallies.{shown_of}
use Rattle.rf_rules.specs.Touched.{is_touched, touched_of}
use Rattle.rf_terms.proofs.KindLaws.{four_roles}
use Rattle.rf_rules.proofs.TupleLaws.{filter-few, length-upto, tuples-few}

pub passed-few : (f : List ℕ → Conflict) (p : List ℕ → Bool) (kind : Kind) (n : ℕ) → n ≤ most_carriers → length (map f (filter p (tuples (roles_of kind) (upto n)))) ≤ most_carriers ^ 4
passed-few f p kind n h =
    let all = tuples (roles_of kind) (upto n) in
    let b : length all ≤ most_carriers ^ roles_of kind = tuples-few most_carriers (roles_of kind) (upto n) (omega (arith, length-upto n, h)) in
    let c : most_carriers ^ roles_of kind ≤ most_carriers ^ 4 = pow-le-pow_right (omega arith) (four_roles kind) in
    omega (arith, length-map (filter p all) f, filter-few p all, b, c)

pub touched-few : (show : ShowData) (ats : List (Option ℕ)) (kind : Kind) (mask : ℕ) → length ats ≤ most_carriers → length (touched_of show ats kind mask) < 2 ^ 64 - 1
touched-few show ats kind mask h = omega (arith, passed-few (conflict_of show ats kind) (is_touched show ats kind mask) kind (length ats) h)

take-few : {X : Type 0} (n : ℕ) (xs : List X) → length (take n xs) ≤ length xs
take-few zero xs = omega arith
take-few (suc n) [] = omega arith
take-few (suc n) (x ∷ xs) = omega (arith, take-few n xs)

pub shown-few : {X : Type 0} (xs : List X) → length (shown_of xs) ≤ length xs
unfolding shown_of
shown-few xs = take-few 10000 xs
