-- Lists of carriers as sets: which sets of two to four of them pass a test.
use Rattle.std.proofs.Common.{◌≡◌, ℕ, zero, suc, ◌+◌, ◌<◌, ◌≤◌, Bool, true, false, not, ◌&&◌, ◌||◌, cond, List, [], ◌∷◌, length, map, filter, refl, ap, sym, ◌∙◌, arith}
use Rattle.std.specs.Prelude.{◌==◌, nat_le, nat_lt}
use Rattle.std.specs.List.{list_all, list_any, range_with_len}
use Rattle.std.specs.Set.{remove_key}
use Rattle.std.proofs.lemmas.Bool.{and_parts, false≢true, le-leb, ltb-true, or_parts, not-true, or_right, or_left, and_from}
use Rattle.std.proofs.lemmas.Bool.Decides.{nat_tests}
use Rattle.std.proofs.lemmas.List.Folds.{list_any-append}
use Rattle.std.proofs.lemmas.Map.Made.{length-remove_key}
use Rattle.rf_log.specs.Case.{are_distinct, has_just, is_among}
use Rattle.rf_log.specs.Sets.{sublists, sets_that}
use Rattle.rf_log.specs.Laws.{IsOfSets}
use Rattle.rf_base.proofs.ListLaws.{any_map, any_never}
use Rattle.rf_base.proofs.BoolLaws.{or_more}
use Rattle.rf_log.proofs.CaseLaws.{distinct_range}

-- ---- distinct carriers are no more than those among which they are

left_cond : (b : Bool) (y c d : ℕ) (ys rest : List ℕ) → (y == c) ≡ b → (y == d || is_among ys d) ≡ true → (d == c) ≡ false
    → (is_among ys d ≡ true → is_among rest d ≡ true) → is_among (cond b ys (y ∷ rest)) d ≡ true
left_cond true y c d ys rest e h k next = grind (arith, nat_tests, e, h, k)
left_cond false y c d ys rest e h k next = grind (arith, nat_tests, e, h, k, next)

-- another carrier stays when one is taken away
left_in : (ys : List ℕ) (c d : ℕ) → is_among ys d ≡ true → (d == c) ≡ false → is_among (remove_key (λ x. x == c) ys) d ≡ true
left_in [] c d h k = h
left_in (y ∷ ys) c d h k = left_cond (y == c) y c d ys (remove_key (λ x. x == c) ys) refl h k (λ i. left_in ys c d i k)

all_left : (cs ys : List ℕ) (c : ℕ) → list_all (is_among ys) cs ≡ true → is_among cs c ≡ false → list_all (is_among (remove_key (λ x. x == c) ys)) cs ≡ true
all_left [] ys c h k = refl
all_left (d ∷ ds) ys c h k =
    let here = and_parts (is_among ys d) _ h in
    let apart = or_parts (d == c) _ k in
    and_from _ _ (left_in ys c d here.0 apart.0) (all_left ds ys c here.1 apart.1)

pub fits : (xs ys : List ℕ) → are_distinct xs ≡ true → list_all (is_among ys) xs ≡ true → length xs ≤ length ys
fits [] ys d h = omega arith
fits (c ∷ cs) ys d h =
    let distinct = and_parts (not (is_among cs c)) _ d in
    let here = and_parts (is_among ys c) _ h in
    let rest = fits cs (remove_key (λ x. x == c) ys) distinct.1 (all_left cs ys c here.1 (not-true _ distinct.0)) in
    let less = length-remove_key (λ x. x == c) ys here.0 in
    omega (arith, rest, less)

-- where they are as many, each of those is one of them
outside : (b : Bool) (xs ys : List ℕ) (y : ℕ) → is_among xs y ≡ b → are_distinct xs ≡ true → list_all (is_among ys) xs ≡ true → is_among ys y ≡ true → length ys ≤ length xs → b ≡ true
outside true xs ys y e d h i l = refl
outside false xs ys y e d h i l =
    let more = fits (y ∷ xs) ys (and_from _ _ (ap not e) d) (and_from _ _ i h) in
    absurd (omega (arith, more, l))

all_from : (zs xs ys : List ℕ) → are_distinct xs ≡ true → list_all (is_among ys) xs ≡ true → length ys ≤ length xs → list_all (is_among ys) zs ≡ true → list_all (is_among xs) zs ≡ true
all_from [] xs ys d h l k = refl
all_from (z ∷ zs) xs ys d h l k =
    let here = and_parts (is_among ys z) _ k in
    and_from _ _ (outside (is_among xs z) xs ys z refl d h here.0 l) (all_from zs xs ys d h l here.1)

among_more : (ys zs : List ℕ) (y : ℕ) → list_all (is_among zs) ys ≡ true → list_all (is_among (y ∷ zs)) ys ≡ true
among_more [] zs y h = refl
among_more (x ∷ xs) zs y h =
    let here = and_parts (is_among zs x) _ h in
    and_from _ _ (ap (λ b. (y == x) || b) here.0 ∙ or_true (y == x)) (among_more xs zs y here.1)
  where
    or_true : (b : Bool) → (b || true) ≡ true
    or_true true = refl
    or_true false = refl

all_among : (ys : List ℕ) → list_all (is_among ys) ys ≡ true
all_among [] = refl
all_among (y ∷ ys) =
    let self : (y == y) ≡ true = grind (arith, nat_tests) in
    and_from _ _ (ap (λ b. b || is_among ys y) self) (among_more ys ys y (all_among ys))

pub among_back : (xs ys : List ℕ) → are_distinct xs ≡ true → list_all (is_among ys) xs ≡ true → length ys ≤ length xs → list_all (is_among xs) ys ≡ true
among_back xs ys d h l = all_from ys xs ys d h l (all_among ys)

-- ---- which sets are listed

any_cond : {X : Type 0} (a b : Bool) (p : X → Bool) (ys : List X) (x : X) (rest : Bool) → p x ≡ b → list_any p ys ≡ rest → list_any p (cond a (x ∷ ys) ys) ≡ ((a && b) || rest)
any_cond true b p ys x rest e h = ap (λ c. c || list_any p ys) e ∙ ap (λ c. b || c) h
any_cond false b p ys x rest e h = h

any-filter : {X : Type 0} (p q : X → Bool) (xs : List X) → list_any p (filter q xs) ≡ list_any (λ x. q x && p x) xs
any-filter p q [] = refl
any-filter p q (x ∷ xs) = any_cond (q x) (p x) p (filter q xs) x _ refl (any-filter p q xs)

-- the elements that pass a test are one of the lists, where they are some and no more than so many
abbrev Lists : ℕ → (List ℕ → Bool) → List ℕ → List ℕ → Type 0
Lists most q chosen xs = 1 ≤ length chosen → length chosen ≤ most → q chosen ≡ true → list_any q (sublists most xs) ≡ true

first_cond : (q : List ℕ → Bool) (x : ℕ) (xs chosen : List ℕ) (most : ℕ) → (1 ≤ length chosen → length chosen ≤ most → q (x ∷ chosen) ≡ true → list_any (λ s. q (x ∷ s)) (sublists most xs) ≡ true)
    → length chosen ≤ most → q (x ∷ chosen) ≡ true → list_any q (sublists (suc most) (x ∷ xs)) ≡ true
unfolding sublists
first_cond q x xs [] most next fit h = or_left _ _ h
first_cond q x xs (c ∷ cs) most next fit h =
    or_right (q (x ∷ [])) _ (list_any-append q (map (λ s. x ∷ s) (sublists most xs)) (sublists (suc most) xs)
    ∙ or_left _ _ (any_map q (λ s. x ∷ s) (sublists most xs) ∙ next (omega arith) fit h))

rest_any : (q : List ℕ → Bool) (x : ℕ) (xs : List ℕ) (most : ℕ) → list_any q (sublists (suc most) xs) ≡ true → list_any q (sublists (suc most) (x ∷ xs)) ≡ true
unfolding sublists
rest_any q x xs most h =
    or_right (q (x ∷ [])) _ (list_any-append q (map (λ s. x ∷ s) (sublists most xs)) (sublists (suc most) xs) ∙ or_right _ _ h)

listed_cond : (b : Bool) (q : List ℕ → Bool) (x : ℕ) (xs chosen : List ℕ) (most : ℕ)
    → ((r : List ℕ → Bool) → Lists most r chosen xs) → Lists (suc most) q chosen xs → Lists (suc most) q (cond b (x ∷ chosen) chosen) (x ∷ xs)
listed_cond true q x xs chosen most fewer same some fit h = first_cond q x xs chosen most (fewer (λ s. q (x ∷ s))) (omega (arith, fit)) h
listed_cond false q x xs chosen most fewer same some fit h = rest_any q x xs most (same some fit h)

pub chosen_listed : (p : ℕ → Bool) (xs : List ℕ) (most : ℕ) (q : List ℕ → Bool) → Lists most q (filter p xs) xs
chosen_listed p [] most q some fit h = absurd (omega (arith, some))
chosen_listed p (x ∷ xs) zero q some fit h = absurd (omega (arith, some, fit))
chosen_listed p (x ∷ xs) (suc most) q some fit h =
    listed_cond (p x) q x xs (filter p xs) most (λ r. chosen_listed p xs most r) (chosen_listed p xs (suc most) q) some fit h

-- ---- the carriers of a set in their order

among_cond : (b : Bool) (a n c : ℕ) → (a == c) ≡ b → a ≤ c → (a + 1 ≤ c → is_among (range_with_len (a + 1) n) c ≡ true) → is_among (range_with_len a (suc n)) c ≡ true
among_cond true a n c e low next = or_left _ _ e
among_cond false a n c e low next = or_right _ _ (next (grind (arith, nat_tests, e, low)))

among_range : (a n c : ℕ) → a ≤ c → c < a + n → is_among (range_with_len a n) c ≡ true
among_range a zero c low high = absurd (omega (arith, low, high))
among_range a (suc n) c low high = among_cond (a == c) a n c refl low (λ more. among_range (a + 1) n c more (omega (arith, high)))

other : (a b : Bool) (p : ℕ → Bool) (x c : ℕ) → (x == c) ≡ a → p x ≡ false → p c ≡ true → (a || b) ≡ true → b ≡ true
other true b p x c same fails pass h =
    let e : x ≡ c = grind (arith, nat_tests, same) in
    absurd (false≢true (sym fails ∙ ap p e ∙ pass))
other false b p x c same fails pass h = h

kept_cond : (b : Bool) (p : ℕ → Bool) (x c : ℕ) (xs : List ℕ) → p x ≡ b → p c ≡ true → (x == c || is_among xs c) ≡ true
    → (is_among xs c ≡ true → is_among (filter p xs) c ≡ true) → is_among (cond b (x ∷ filter p xs) (filter p xs)) c ≡ true
kept_cond true p x c xs e pass h next = or_more (x == c) (is_among xs c) _ h next
kept_cond false p x c xs e pass h next = next (other (x == c) (is_among xs c) p x c refl e pass h)

-- what is among a list and passes is among those that pass
kept_among : (p : ℕ → Bool) (xs : List ℕ) (c : ℕ) → p c ≡ true → is_among xs c ≡ true → is_among (filter p xs) c ≡ true
kept_among p [] c pass h = h
kept_among p (x ∷ xs) c pass h = kept_cond (p x) p x c xs refl pass h (kept_among p xs c pass)

all_kept : (carriers xs : List ℕ) (p : ℕ → Bool) → list_all p carriers ≡ true → list_all (is_among xs) carriers ≡ true → list_all (is_among (filter p xs)) carriers ≡ true
all_kept [] xs p pass h = refl
all_kept (c ∷ cs) xs p pass h =
    let now = and_parts (p c) _ pass in
    let here = and_parts (is_among xs c) _ h in
    and_from _ _ (kept_among p xs c now.0 here.0) (all_kept cs xs p now.1 here.1)

all_in_range : (carriers : List ℕ) (count : ℕ) → list_all (λ c. nat_lt c count) carriers ≡ true → list_all (is_among (range_with_len 0 count)) carriers ≡ true
all_in_range [] count h = refl
all_in_range (c ∷ cs) count h =
    let here = and_parts (nat_lt c count) _ h in
    and_from _ _ (among_range 0 count c (omega arith) (omega (arith, ltb-true _ _ here.0))) (all_in_range cs count here.1)

pass_cond : (b : Bool) (p : ℕ → Bool) (x : ℕ) (xs : List ℕ) → p x ≡ b → list_all p xs ≡ true → list_all p (cond b (x ∷ xs) xs) ≡ true
pass_cond true p x xs e h = and_from _ _ e h
pass_cond false p x xs e h = h

all_pass : (p : ℕ → Bool) (xs : List ℕ) → list_all p (filter p xs) ≡ true
all_pass p [] = refl
all_pass p (x ∷ xs) = pass_cond (p x) p x (filter p xs) refl (all_pass p xs)

-- ---- the law

-- a list is a set of these carriers that passes
abbrev is_wanted : (List ℕ → Bool) → List ℕ → List ℕ → Bool
is_wanted test carriers set = (nat_le 2 (length set) && test set) && has_just carriers set

wanted_passes : (test : List ℕ → Bool) (carriers set : List ℕ) (b : Bool) → IsOfSets test → are_distinct carriers ≡ true → test carriers ≡ false → is_wanted test carriers set ≡ b → b ≡ false
wanted_passes test carriers set false of distinct fails e = refl
wanted_passes test carriers set true of distinct fails e =
    let parts = and_parts (nat_le 2 (length set) && test set) _ e in
    let passes = (and_parts (nat_le 2 (length set)) _ parts.0).1 in
    let just = and_parts (length set == length carriers) _ parts.1 in
    let many : length set ≡ length carriers = grind (arith, nat_tests, just.0) in
    let fit : length set ≤ length carriers = omega (arith, many) in
    sym passes ∙ of.same set carriers many (among_back carriers set distinct just.1 fit) just.1 ∙ fails

sets_cond : (b : Bool) (test : List ℕ → Bool) (count : ℕ) (carriers : List ℕ) → test carriers ≡ b → IsOfSets test
    → list_all (λ c. nat_lt c count) carriers ≡ true → are_distinct carriers ≡ true → 2 ≤ length carriers → length carriers ≤ 4
    → list_any (is_wanted test carriers) (sublists 4 (range_with_len 0 count)) ≡ b
sets_cond false test count carriers e of known distinct some few =
    any_never (is_wanted test carriers) (sublists 4 (range_with_len 0 count)) (λ set. wanted_passes test carriers set (is_wanted test carriers set) of distinct e refl)
sets_cond true test count carriers e of known distinct some few =
    let all = range_with_len 0 count in
    let chosen = filter (is_among carriers) all in
    let into : list_all (is_among carriers) chosen ≡ true = all_pass (is_among carriers) all in
    let back : list_all (is_among chosen) carriers ≡ true = all_kept carriers all (is_among carriers) (all_among carriers) (all_in_range carriers count known) in
    let less = fits chosen carriers (distinct_range (is_among carriers) 0 count) into in
    let more = fits carriers chosen distinct back in
    let many : length chosen ≡ length carriers = omega (arith, less, more) in
    let same : (length chosen == length carriers) ≡ true = grind (arith, nat_tests, many) in
    chosen_listed (is_among carriers) all 4 (is_wanted test carriers) (omega (arith, some, more)) (omega (arith, few, less))
    (and_from _ _ (and_from _ _ (le-leb _ _ (omega (arith, some, more))) (of.same chosen carriers many into back ∙ e)) (and_from _ _ same back))

pub sets_tested : (test : List ℕ → Bool) (count : ℕ) (carriers : List ℕ) → IsOfSets test
    → list_all (λ c. nat_lt c count) carriers ≡ true → are_distinct carriers ≡ true → 2 ≤ length carriers → length carriers ≤ 4
    → list_any (has_just carriers) (sets_that test count) ≡ test carriers
sets_tested test count carriers of known distinct some few =
    any-filter (has_just carriers) (λ set. nat_le 2 (length set) && test set) (sublists 4 (range_with_len 0 count))
    ∙ sets_cond (test carriers) test count carriers refl of known distinct some few
