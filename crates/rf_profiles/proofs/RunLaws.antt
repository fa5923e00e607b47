-- Runs of neighbouring channels that pass: what the first is, and the channels of each range.
use Rattle.std.proofs.Common.{◌≡◌, add-zero, get_or, length-append, take, ◌<◌, ◌≤◌, ◌+◌, ◌-◌, ◌++◌, ◌∙◌, ℕ, zero, suc, List, [], ◌∷◌, Bool, true, false, not, length, append-nil, inl, inr}
use Rattle.std.proofs.Common.{subst, sym, ap, arith, refl, ◌==◌, slice_index}
use Rattle.std.proofs.lemmas.List.Folds.{length-flat_map-take}
use Rattle.std.proofs.lemmas.Bool.{and_parts, cases_lt, false≢true}
use Rattle.std.proofs.lemmas.List.FromFn.{length-range_with_len, get_or-range_with_len}
use Rattle.std.proofs.lemmas.Bool.Decides.{nat_tests}
use Rattle.std.specs.List.{list_all, range_with_len, slice_split}
use Rattle.rf_profiles.specs.Channels.{IsChannels, channels}
use Rattle.rf_profiles.specs.Range.{Span, frequencies}
use Rattle.rf_profiles.specs.Runs.{blocks, runs, IsNextRun}

-- the numbers from a on, in two parts
pub range_parts : (a m n s b : ℕ) → s ≡ m + n → b ≡ a + m → range_with_len a s ≡ range_with_len a m ++ range_with_len b n
range_parts a zero n s b h k = let e : s ≡ n = omega arith in let f : b ≡ a = omega arith in rw (e, f) refl
range_parts a (suc m) n zero b h k = absurd (omega arith)
range_parts a (suc m) n (suc s) b h k = ap (λ more. a ∷ more) (range_parts (a + 1) m n s b (omega arith) (omega arith))

list_all_range : (test : ℕ → Bool) (a n : ℕ) → ((k : ℕ) → a ≤ k → k < a + n → test k ≡ true) → list_all test (range_with_len a n) ≡ true
list_all_range test a zero h = refl
list_all_range test a (suc n) h =
    let first : test a ≡ true = h a (omega arith) (omega arith) in
    rw (first, list_all_range test (a + 1) n (λ k low high. h k (omega arith) (omega arith))) refl

some : (n : ℕ) → (suc n == 0) ≡ false
some n = grind (arith, nat_tests)

module _ (test : ℕ → Bool) where
  split_run : (xs : List ℕ) (y : ℕ) (ys : List ℕ) → list_all test xs ≡ true → test y ≡ false
      → slice_split (λ k. not (test k)) (xs ++ y ∷ ys) ≡ xs ∷ slice_split (λ k. not (test k)) ys
  split_run [] y ys h e = rw e refl
  split_run (x ∷ xs) y ys h e = let p = and_parts (test x) (list_all test xs) h in rw (p.0, split_run xs y ys p.1 e) refl

  split_all : (xs : List ℕ) → list_all test xs ≡ true → slice_split (λ k. not (test k)) xs ≡ xs ∷ []
  split_all [] h = refl
  split_all (x ∷ xs) h = let p = and_parts (test x) (list_all test xs) h in rw (p.0, split_all xs p.1) refl

  -- what does not pass makes no run
  runs_skip : (xs ys : List ℕ) → list_all (λ k. not (test k)) xs ≡ true → runs test (xs ++ ys) ≡ runs test ys
  unfolding runs
  runs_skip [] ys h = refl
  runs_skip (x ∷ xs) ys h = let p = and_parts (not (test x)) (list_all (λ k. not (test k)) xs) h in rw p.0 (runs_skip xs ys p.1)

  -- what passes, up to the end, is one run
  runs_all : (x : ℕ) (xs : List ℕ) → list_all test (x ∷ xs) ≡ true → runs test (x ∷ xs) ≡ (x ∷ xs) ∷ runs test []
  unfolding runs
  runs_all x xs h = rw (split_all (x ∷ xs) h, some (length xs)) refl

  -- or up to what does not pass
  runs_take : (x : ℕ) (xs : List ℕ) (y : ℕ) (ys : List ℕ) → list_all test (x ∷ xs) ≡ true → test y ≡ false → runs test ((x ∷ xs) ++ y ∷ ys) ≡ (x ∷ xs) ∷ runs test (y ∷ ys)
  unfolding runs
  runs_take x xs y ys h e = rw (split_run (x ∷ xs) y ys h e, some (length xs), e) refl

take_part : (test : ℕ → Bool) (a m b n : ℕ) → 0 < m → list_all test (range_with_len a m) ≡ true → (0 < n → test b ≡ false)
    → runs test (range_with_len a m ++ range_with_len b n) ≡ range_with_len a m ∷ runs test (range_with_len b n)
take_part test a zero b n some passes ends = absurd (omega arith)
take_part test a (suc m) b zero some passes ends = rw append-nil (runs_all test a (range_with_len (a + 1) m) passes)
take_part test a (suc m) b (suc n) some passes ends =
    runs_take test a (range_with_len (a + 1) m) b (range_with_len (b + 1) n) passes (ends (omega arith))

-- where one passes and the other does not, they differ
differ : (test : ℕ → Bool) (a b : ℕ) → test a ≡ true → test b ≡ false → a ≤ b → a < b
differ test a b passes fails low = elim (cases_lt a b) [ inl less ↦ less | inr most ↦ let same : b ≡ a = omega arith in absurd (false≢true (sym (subst (λ k. test k ≡ false) same fails) ∙ passes)) ]

-- the ends of a run, and its length
pub record RunEnds (first stop : ℕ) : Type 0 where
  pub lowest : slice_index (range_with_len first (stop - first)) 0 ≡ first
  pub highest : slice_index (range_with_len first (stop - first)) (length (range_with_len first (stop - first)) - 1) ≡ stop - 1
  pub count : length (range_with_len first (stop - first)) ≡ stop - first

pub run_ends : (first stop : ℕ) → first < stop → RunEnds first stop
run_ends first stop h =
    let long = length-range_with_len first (stop - first) in
    let low = get_or-range_with_len first (stop - first) 0 0 (omega arith) in
    let high = get_or-range_with_len first (stop - first) (stop - first - 1) 0 (omega arith) in
    record { lowest = omega (arith, low); highest = rw long (omega (arith, high)); count = long }

module _ (test : ℕ → Bool) (start end first : ℕ) (after : start ≤ first) (before : (k : ℕ) → start ≤ k → k < first → test k ≡ false) where
  skipped : first ≤ end → runs test (range_with_len start (end - start)) ≡ runs test (range_with_len first (end - first))
  skipped within =
      let parts = range_parts start (first - start) (end - first) (end - start) first (omega arith) (omega arith) in
      let none : list_all (λ k. not (test k)) (range_with_len start (first - start)) ≡ true =
      list_all_range (λ k. not (test k)) start (first - start) (λ k low high. rw (before k low (omega arith)) refl) in
      rw parts (runs_skip test (range_with_len start (first - start)) (range_with_len first (end - first)) none)

  -- there is no run
  pub no_run : first ≡ end → runs test (range_with_len start (end - start)) ≡ []
  unfolding runs
  no_run h = let none : end - first ≡ 0 = omega arith in skipped (omega arith) ∙ rw none refl

  -- the first run
  pub next_run : (stop : ℕ) → first < end → first ≤ stop → stop ≤ end → test first ≡ true
      → ((k : ℕ) → first ≤ k → k < stop → test k ≡ true) → (stop < end → test stop ≡ false) → IsNextRun test start end first stop
  next_run stop inside low high here passes ends =
      let some : first < stop = elim (cases_lt stop end) [ inl less ↦ differ test first stop here (ends less) low | inr most ↦ omega arith ] in
      let parts = range_parts first (stop - first) (end - stop) (end - first) stop (omega arith) (omega arith) in
      let all : list_all test (range_with_len first (stop - first)) ≡ true = list_all_range test first (stop - first) (λ k l h. passes k l (omega arith)) in
      record {
        after = after;
        some = some;
        within = high;
        is = skipped (omega arith) ∙ rw parts (take_part test first (stop - first) stop (end - stop) (omega arith) all (λ left. ends (omega arith)));
      }

pub blocks-push : (from : ℕ) (ranges : List Span) (range : Span)
    → blocks from (ranges ++ range ∷ []) ≡ blocks from ranges ++ range_with_len (from + length (channels ranges)) (length (frequencies range)) ∷ []
blocks-push from [] range = rw add-zero refl
blocks-push from (r ∷ ranges) range =
    let long = length-append (frequencies r) (channels ranges) in
    let sum : from + length (channels (r ∷ ranges)) ≡ from + length (frequencies r) + length (channels ranges) = omega (arith, long) in
    rw sum (ap (λ more. range_with_len from (length (frequencies r)) ∷ more) (blocks-push (from + length (frequencies r)) ranges range))

-- the channels of the next range are among all
pub range_within : (ranges : List Span) (index : ℕ) (range : Span) → index < length ranges → range ≡ get_or ranges index range
    → length (channels (take index ranges)) + length (frequencies range) ≤ length (channels ranges)
range_within ranges index range h e = let fits = length-flat_map-take frequencies ranges index range h in rw (← e) at fits

-- a profile's channels are no more than there may be
pub all_channels : (ranges those : List Span) → ranges ≡ those → IsChannels those → length (channels ranges) ≤ 65536
all_channels ranges those e h = rw e h.many
