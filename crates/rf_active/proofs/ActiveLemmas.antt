-- The problem of a show has the case of the show.
use Rattle.std.proofs.Common.{◌≡◌, ℕ, zero, suc, ◌+◌, ◌<◌, ◌≤◌, Bool, true, false, ◌&&◌, ◌||◌, List, [], ◌∷◌, ◌++◌, length, map, filter, cond, get_or, length-append, refl, ap, sym, ◌∙◌}
use Rattle.std.proofs.Common.{arith, inl, inr, ◌==◌, nat_le, nat_lt, Result, Ok, Err, OnOk, lt-ltb, ltb-true}
use Rattle.std.specs.List.{list_all, list_any, range_with_len}
use Rattle.std.proofs.lemmas.Bool.{and_parts, cases_Bool, cases_lt, and_from}
use Rattle.std.proofs.lemmas.Bool.Decides.{nat_tests}
use Rattle.std.proofs.Math.Seq.{get_or-append_seam}
use Rattle.std.proofs.lemmas.List.{get_or_append_left}
use Rattle.std.proofs.lemmas.List.Folds.{list_all-append}
use Rattle.rf_zones.specs.Masks.{has_bit, has_bits}
use Rattle.rf_zones.specs.Slices.{share_minute}
use Rattle.rf_log.specs.Sets.{sets_that, sublists}
use Rattle.rf_problem.specs.Problem as problem
use Rattle.rf_problem.specs.Problem.{CarrierData, ProblemData, mask_of, no_data, with_carrier}
use Rattle.rf_show.specs.Show.{ShowData}
use Rattle.rf_show.specs.declared.carrier.Carrier.{Carrier}
use Rattle.rf_show.specs.Query.{all_meet, are_joined, is_together, meet_at}
use Rattle.rf_show.specs.Case.{case_carrier, case_of}
use Rattle.rf_show.specs.Company.{MeetingIsMutual}
use Rattle.rf_active.specs.Active.{HasFirst, IsAdded, IsOf, Meets, carrier_with}
use mathlib.Core.Bool.{and_comm}

-- ---- no carrier yet, and one more

pub none_yet : (show : ShowData) (p : ProblemData) (masks : List ℕ) → p ≡ record { slices = masks; carriers = [] }
    → ((set : List ℕ) → list_any (has_bits set) masks ≡ share_minute (map (λ (c : Carrier). c.times) show.carriers) set) → HasFirst show 0 p
none_yet show p masks is common = record {
  slices = λ set. ap (λ (q : ProblemData). list_any (has_bits set) q.slices) is ∙ common set;
  counted = ap (λ (q : ProblemData). length q.carriers) is;
  each = λ c low. absurd (omega (arith, low));
}

-- what holds of a set of two, and of one of three, holds of each set
meets_any : (show : ShowData) (c : ℕ) (carrier : CarrierData) → Meets show 2 c carrier.reach → Meets show 3 c carrier.heard → (size : ℕ) → Meets show size c (mask_of size carrier)
meets_any show c carrier two more size b low = elim (cases_Bool (nat_le size 2)) [ inl small ↦ rw small (two b low) | inr large ↦ rw large (more b low) ]

pub is_added : {A E : Type 0} (show : ShowData) (c heard reach : ℕ) (old new : ProblemData) (given : CarrierData) (r : Result A E) → Meets show 2 c reach → Meets show 3 c heard
    → given ≡ carrier_with show c heard reach → OnOk r (new ≡ with_carrier old given) → OnOk r (IsAdded show c old new)
is_added show c heard reach old new given (Ok _) two more is e = record {
  heard = heard;
  reach = reach;
  added = e ∙ ap (with_carrier old) is;
  meets = meets_any show c (carrier_with show c heard reach) two more;
}
is_added show c heard reach old new given (Err _) two more is e = e

is_of : (show : ShowData) (c heard reach : ℕ) (carrier : CarrierData) → carrier ≡ carrier_with show c heard reach → ((size : ℕ) → Meets show size c (mask_of size (carrier_with show c heard reach)))
    → IsOf show c carrier
is_of show c heard reach carrier e h =
    let heard_is : carrier.heard ≡ heard = ap (λ (x : CarrierData). x.heard) e in
    let reach_is : carrier.reach ≡ reach = ap (λ (x : CarrierData). x.reach) e in
    record {
      same = e ∙ ap (λ m. carrier_with show c m reach) (sym heard_is) ∙ ap (carrier_with show c carrier.heard) (sym reach_is);
      meets = λ size b low. ap (λ (x : CarrierData). has_bit (mask_of size x) b) e ∙ h size b low;
    }

pub added_more : (show : ShowData) (c : ℕ) (old new : ProblemData) → HasFirst show c old → IsAdded show c old new → HasFirst show (c + 1) new
added_more show c old new has add =
    let carrier = carrier_with show c add.heard add.reach in
    let list : new.carriers ≡ old.carriers ++ carrier ∷ [] = ap (λ (p : ProblemData). p.carriers) add.added in
    record {
      slices = λ set. ap (λ (p : ProblemData). list_any (has_bits set) p.slices) add.added ∙ has.slices set;
      counted = ap length list ∙ length-append old.carriers (carrier ∷ []) ∙ ap (λ n. n + 1) has.counted;
      each = λ k low. elim (cases_lt k c) [
        | inl below ↦
            let here : get_or new.carriers k no_data ≡ get_or old.carriers k no_data =
            ap (λ l. get_or l k no_data) list ∙ get_or_append_left old.carriers (carrier ∷ []) no_data k (omega (arith, below, has.counted)) in
            let earlier = get_or old.carriers k no_data in
            is_of show k earlier.heard earlier.reach (get_or new.carriers k no_data) (here ∙ (has.each k below).same)
            (λ size b low'. sym (ap (λ (x : CarrierData). has_bit (mask_of size x) b) (has.each k below).same) ∙ (has.each k below).meets size b low')
        | inr above ↦
            let same : k ≡ c = omega (arith, above, low) in
            let here : get_or new.carriers k no_data ≡ carrier =
            ap (λ l. get_or l k no_data) list ∙ ap (λ i. get_or (old.carriers ++ carrier ∷ []) i no_data) (same ∙ sym has.counted) ∙ get_or-append_seam old.carriers carrier [] no_data in
            is_of show k add.heard add.reach (get_or new.carriers k no_data) (here ∙ ap (λ n. carrier_with show n add.heard add.reach) (sym same))
            (λ size b low'. add.meets size b low' ∙ ap (λ n. meet_at size show.zones show.carriers n b) (sym same))
      ];
    }

-- ---- which carriers are together

filter_same : {X : Type 0} (p q r : X → Bool) (xs : List X) → list_all r xs ≡ true → ((x : X) → r x ≡ true → p x ≡ q x) → filter p xs ≡ filter q xs
filter_same p q r [] all same = refl
filter_same p q r (x ∷ xs) all same =
    let parts = and_parts (r x) _ all in
    ap (λ b. cond b (x ∷ filter p xs) (filter p xs)) (same x parts.0) ∙ ap (λ ys. cond (q x) (x ∷ ys) ys) (filter_same p q r xs parts.1 same)

all_same : (p q r : ℕ → Bool) (xs : List ℕ) → list_all r xs ≡ true → ((x : ℕ) → r x ≡ true → p x ≡ q x) → list_all p xs ≡ list_all q xs
all_same p q r [] all same = refl
all_same p q r (x ∷ xs) all same =
    let parts = and_parts (r x) _ all in
    ap (λ b. b && list_all p xs) (same x parts.0) ∙ ap (λ b. q x && b) (all_same p q r xs parts.1 same)

abbrev are_below : ℕ → List ℕ → Bool
are_below n set = list_all (λ c. nat_lt c n) set

with_first : (n x : ℕ) (sets : List (List ℕ)) → nat_lt x n ≡ true → list_all (are_below n) sets ≡ true → list_all (are_below n) (map (λ set. x ∷ set) sets) ≡ true
with_first n x [] low all = refl
with_first n x (s ∷ ss) low all =
    let parts = and_parts (are_below n s) _ all in
    and_from _ _ (and_from _ _ low parts.0) (with_first n x ss low parts.1)

sublists_below : (n most : ℕ) (xs : List ℕ) → are_below n xs ≡ true → list_all (are_below n) (sublists most xs) ≡ true
unfolding sublists
sublists_below n zero xs low = refl
sublists_below n (suc most) [] low = refl
sublists_below n (suc most) (x ∷ xs) low =
    let parts = and_parts (nat_lt x n) _ low in
    and_from _ _ (and_from _ _ parts.0 refl)
    (list_all-append (are_below n) (map (λ set. x ∷ set) (sublists most xs)) (sublists (suc most) xs)
    ∙ and_from _ _ (with_first n x (sublists most xs) parts.0 (sublists_below n most xs parts.1)) (sublists_below n (suc most) xs parts.1))

range_below : (n a k : ℕ) → a + k ≤ n → are_below n (range_with_len a k) ≡ true
range_below n a zero h = refl
range_below n a (suc k) h = and_from _ _ (lt-ltb a n (omega (arith, h))) (range_below n (a + 1) k (omega (arith, h)))

meet_same : MeetingIsMutual → (show : ShowData) (p : ProblemData) → HasFirst show (length show.carriers) p → (size a b : ℕ) → a < length show.carriers → b < length show.carriers
    → problem.meet size p.carriers a b ≡ meet_at size show.zones show.carriers a b
meet_same ways show p has size a b la lb =
    let both = (ways show.zones show.carriers).both size in
    let own = (ways show.zones show.carriers).own size in
    elim (cases_lt a b) [
      | inl less ↦
          let t : nat_lt a b ≡ true = lt-ltb a b less in
          ap (λ t. cond t (problem.meets_earlier size p.carriers b a) ((a == b) || problem.meets_earlier size p.carriers a b)) t
          ∙ (has.each b lb).meets size a la ∙ both b a
      | inr more ↦
          let t : nat_lt a b ≡ false = grind (arith, nat_tests, more) in
          ap (λ t. cond t (problem.meets_earlier size p.carriers b a) ((a == b) || problem.meets_earlier size p.carriers a b)) t
          ∙ elim (cases_lt b a) [
            | inl less ↦
                let other : (a == b) ≡ false = grind (arith, nat_tests, less) in
                ap (λ t. t || problem.meets_earlier size p.carriers a b) other ∙ (has.each a la).meets size b lb
            | inr equal ↦
                let same : a ≡ b = omega (arith, more, equal) in
                let test : (a == b) ≡ true = grind (arith, nat_tests, same) in
                ap (λ t. t || problem.meets_earlier size p.carriers a b) test ∙ sym (own a la) ∙ ap (meet_at size show.zones show.carriers a) same
          ]
    ]

all_meet_same : MeetingIsMutual → (show : ShowData) (p : ProblemData) → HasFirst show (length show.carriers) p → (size : ℕ) (set : List ℕ) → are_below (length show.carriers) set ≡ true
    → problem.all_meet size p.carriers set ≡ all_meet size show.zones show.carriers set
all_meet_same ways show p has size set low =
    all_same (λ a. list_all (λ b. problem.meet size p.carriers a b) set) (λ a. list_all (λ b. meet_at size show.zones show.carriers a b) set) (λ c. nat_lt c (length show.carriers)) set low
    (λ a la. all_same (λ b. problem.meet size p.carriers a b) (λ b. meet_at size show.zones show.carriers a b) (λ c. nat_lt c (length show.carriers)) set low
    (λ b lb. meet_same ways show p has size a b (ltb-true _ _ la) (ltb-true _ _ lb)))

joined_same : MeetingIsMutual → (show : ShowData) (p : ProblemData) → HasFirst show (length show.carriers) p → (set : List ℕ) → are_below (length show.carriers) set ≡ true
    → problem.are_joined p set ≡ is_together show set
unfolding are_joined
joined_same ways show p has set low =
    ap (λ b. b && problem.all_meet (length set) p.carriers set) (has.slices set)
    ∙ ap (λ b. share_minute (map (λ (c : Carrier). c.times) show.carriers) set && b) (all_meet_same ways show p has (length set) set low)
    ∙ and_comm (share_minute (map (λ (c : Carrier). c.times) show.carriers) set) (all_meet (length set) show.zones show.carriers set)

together_same : MeetingIsMutual → (show : ShowData) (p : ProblemData) → HasFirst show (length show.carriers) p
    → sets_that (problem.are_joined p) (length p.carriers) ≡ sets_that (is_together show) (length show.carriers)
together_same ways show p has =
    let n = length show.carriers in
    ap (sets_that (problem.are_joined p)) has.counted
    ∙ filter_same (λ set. nat_le 2 (length set) && problem.are_joined p set) (λ set. nat_le 2 (length set) && is_together show set) (are_below n)
    (sublists 4 (range_with_len 0 n)) (sublists_below n 4 (range_with_len 0 n) (range_below n 0 n (omega arith)))
    (λ set low. ap (λ b. nat_le 2 (length set) && b) (joined_same ways show p has set low))

-- ---- the carriers of the case

carrier_same : (show : ShowData) (c heard reach : ℕ) → problem.carrier_of (carrier_with show c heard reach) ≡ case_carrier show c
unfolding case_carrier
carrier_same show c heard reach = refl

carriers_from : (show : ShowData) (carriers : List CarrierData) (a n : ℕ) → length carriers ≡ n → ((k : ℕ) → k < n → IsOf show (a + k) (get_or carriers k no_data))
    → map problem.carrier_of carriers ≡ map (case_carrier show) (range_with_len a n)
carriers_from show [] a zero e each = refl
carriers_from show [] a (suc n) e each = absurd (omega (arith, e))
carriers_from show (x ∷ xs) a zero e each = absurd (omega (arith, e))
carriers_from show (x ∷ xs) a (suc n) e each =
    let first = each 0 (omega arith) in
    let here : problem.carrier_of x ≡ case_carrier show a =
    ap problem.carrier_of first.same ∙ carrier_same show (a + 0) x.heard x.reach ∙ ap (case_carrier show) (omega arith) in
    ap (λ c. c ∷ map problem.carrier_of xs) here
    ∙ ap (λ cs. case_carrier show a ∷ cs) (carriers_from show xs (a + 1) n (omega (arith, e))
    (λ k low. let next = each (suc k) (omega (arith, low)) in let place : a + suc k ≡ a + 1 + k = omega arith in rw (sym place) next))

pub same_case : MeetingIsMutual → (show : ShowData) (p : ProblemData) → HasFirst show (length show.carriers) p → problem.case_of p ≡ case_of show
unfolding problem.case_of case_of
same_case ways show p has =
    ap (λ cs. record { carriers = cs; together = sets_that (problem.are_joined p) (length p.carriers) })
    (carriers_from show p.carriers 0 (length show.carriers) has.counted (λ k low. let place : 0 + k ≡ k = omega arith in rw place (has.each k low)))
    ∙ ap (λ sets. record { carriers = map (case_carrier show) (range_with_len 0 (length show.carriers)); together = sets }) (together_same ways show p has)
