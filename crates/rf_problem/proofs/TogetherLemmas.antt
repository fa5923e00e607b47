-- Which sets are together in the case of a problem.
use Rattle.std.proofs.Common.{◌≡◌, ◌∙◌, ℕ, ◌<◌, ◌≤◌, List, Bool, true, ◌&&◌, length, sym, ap, All, IsTrue}
use Rattle.std.specs.List.{list_all}
use Rattle.std.proofs.lemmas.Bool.{and_parts, and_from}
use Rattle.rf_zones.specs.Masks.{has_bits}
use Rattle.rf_log.specs.Case.{is_among, are_distinct, are_together}
use Rattle.rf_log.specs.Laws.{IsOfSets, SetsAreTested}
use Rattle.rf_problem.specs.Problem.{ProblemData, share_slice, all_meet, meet, are_joined, case_of}
use Rattle.rf_problem.proofs.SetLemmas.{all_from, all_part, any_weaker}
use Rattle.rf_base.proofs.ListLaws.{tested_below}
use Rattle.rf_base.proofs.BoolLaws.{same_test}
use Rattle.rf_log.proofs.CaseLaws.{among_all}

-- a set has a slice, and each two of it may be together in a set of so many
abbrev are_joined_in : ProblemData → ℕ → List ℕ → Bool
are_joined_in p size set = share_slice p.slices set && all_meet size p.carriers set

-- a part of a set that is joined is joined
joined_part : (p : ProblemData) (size : ℕ) (xs ys : List ℕ) → ((c : ℕ) → is_among ys c ≡ true → is_among xs c ≡ true) → are_joined_in p size xs ≡ true → are_joined_in p size ys ≡ true
joined_part p size xs ys part joined =
    let parts = and_parts (share_slice p.slices xs) (all_meet size p.carriers xs) joined in
    and_from (share_slice p.slices ys) (all_meet size p.carriers ys)
    (any_weaker (has_bits xs) (has_bits ys) p.slices (λ slice has. all_part _ xs ys part has) parts.0)
    (all_from (λ a. list_all (λ b. meet size p.carriers a b) ys) ys
    (λ a among. all_part (λ b. meet size p.carriers a b) xs ys part (among_all (λ a. list_all (λ b. meet size p.carriers a b) xs) xs a parts.1 (part a among))))

joined_same : (p : ProblemData) → IsOfSets (are_joined p)
joined_same p = record {
  same = λ s t many into back.
      ap (λ size. are_joined_in p size s) many
      ∙ same_test (are_joined_in p (length t) s) (are_joined_in p (length t) t)
      (joined_part p (length t) s t (λ c among. among_all (is_among s) t c back among))
      (joined_part p (length t) t s (λ c among. among_all (is_among t) s c into among));
}

pub joined_is_together : SetsAreTested → (p : ProblemData) (set : List ℕ) → All (λ c. c < length p.carriers) set → IsTrue (are_distinct set) → 2 ≤ length set → length set ≤ 4
    → are_joined p set ≡ are_together (case_of p) set
unfolding case_of
joined_is_together tested p set below distinct two four =
    sym (tested (are_joined p) (length p.carriers) set (joined_same p) (tested_below (length p.carriers) set below) distinct two four)
