-- The runs of neighbours that pass a test.
use Rattle.std.proofs.Common.{◌∙◌, ◌≡◌, zero-add, get_or, length-append, take, ◌<◌, ◌≤◌, ◌+◌, ◌-◌, ◌++◌, ℕ, List, [], ◌∷◌, Bool, not, length, append-nil, append_assoc, ap, arith, refl}
use Rattle.std.specs.Prelude.{slice_get, Some, ◌==◌, codes, decimal, string_bytes, filter, String}
use Rattle.std.specs.declared.alloc.Global.{Global}
use Rattle.std.proofs.lemmas.List.{flat_map_more, take_more}
use Rattle.rf_base.proofs.ListLaws.{flat_same}
use Rattle.std.proofs.lemmas.List.Concat.{flat_map-append}
use Rattle.std.proofs.lemmas.Option.{get_or_from_slice_get}
use Rattle.std.specs.List.{flat_map, range_with_len, slice_split}
use Rattle.rf_profiles.specs.Channels.{channels}
use Rattle.rf_profiles.specs.Range.{Span, frequencies}
use Rattle.rf_spares.specs.Runs.{flag_at}
use Rattle.rf_spares.specs.Texts.{answer_text, is_among, khz_at, run_line, runs_in, take_line}
use Rattle.rf_spares.specs.declared.answer.Spares.{Spares}
use Rattle.rf_base.specs.Lines.{line_of}
use Rattle.rf_profiles.specs.Runs.{blocks, runs, IsNextRun}
use Rattle.rf_profiles.proofs.RunLaws.{run_ends, blocks-push}

pub khz_is : (ranges : List Span) (k khz : ℕ) → slice_get (channels ranges) k ≡ Some khz → khz_at ranges k ≡ khz
khz_is ranges k khz e = get_or_from_slice_get (channels ranges) k khz 0 e

pub run_line_is : (ranges : List Span) (first stop lowest highest : ℕ) → first < stop → khz_at ranges first ≡ lowest → khz_at ranges (stop - 1) ≡ highest
    → run_line ranges (range_with_len first (stop - first)) ≡ line_of (decimal lowest ∷ decimal highest ∷ decimal (stop - first) ∷ [])
unfolding run_line
run_line_is ranges first stop lowest highest h a b = let ends = run_ends first stop h in rw (ends.lowest, ends.highest, ends.count, a, b) refl

-- What is written of the runs from `start` up to `end`, where those from `next` on are left.
pub record Written (ranges : List Span) (test : ℕ → Bool) (old : String Global) (start end : ℕ) (text : String Global) (next : ℕ) : Type 0 where
  pub low : start ≤ next
  pub high : next ≤ end
  pub lines : string_bytes text ++ flat_map (run_line ranges) (runs test (range_with_len next (end - next)))
      ≡ string_bytes old ++ flat_map (run_line ranges) (runs test (range_with_len start (end - start)))

-- one run more is written
pub written_more : (ranges : List Span) (test : ℕ → Bool) (old : String Global) (start end : ℕ) (text more : String Global) (next first stop : ℕ)
    → Written ranges test old start end text next → IsNextRun test next end first stop
    → string_bytes more ≡ string_bytes text ++ run_line ranges (range_with_len first (stop - first))
    → Written ranges test old start end more stop
written_more ranges test old start end text more next first stop w n e =
    let is = n.is in
    record {
      low = omega (arith, w.low, n.after, n.some);
      high = n.within;
      lines = rw (e, append_assoc) (rw is at w.lines);
    }

-- ---- the ranges of a profile

-- What is written of the first ranges of a profile, where the channels of the next begin at `next`.
pub record RangesWritten (all : List Span) (test : ℕ → Bool) (old : String Global) (ranges : List Span) (index : ℕ) (text : String Global) (next : ℕ) : Type 0 where
  pub begins : next ≡ length (channels (take index ranges))
  pub lines : string_bytes text ≡ string_bytes old ++ flat_map (run_line all) (flat_map (runs test) (blocks 0 (take index ranges)))

-- one range more is written
pub ranges_more : (all : List Span) (test : ℕ → Bool) (old : String Global) (ranges : List Span) (index : ℕ) (text more : String Global) (next : ℕ) (range : Span)
    → RangesWritten all test old ranges index text next → index < length ranges → range ≡ get_or ranges index range
    → string_bytes more ≡ string_bytes text ++ flat_map (run_line all) (runs test (range_with_len next (length (frequencies range))))
    → RangesWritten all test old ranges (index + 1) more (next + length (frequencies range))
ranges_more all test old ranges index text more next range w h e t =
    let taken : take (index + 1) ranges ≡ take index ranges ++ range ∷ [] = let more = take_more ranges index range h in rw (← e) at more in
    let begins = w.begins in
    let block : blocks 0 (take (index + 1) ranges) ≡ blocks 0 (take index ranges) ++ range_with_len next (length (frequencies range)) ∷ [] =
    rw (taken, blocks-push, zero-add, ← begins) refl in
    let lines = w.lines in
    record {
      begins = rw taken (simp (flat_map-append, length-append, append-nil) (omega (arith, begins)));
      lines = rw (block, t, lines) (simp (flat_map-append, append_assoc, append-nil));
    }

-- tests that agree make the same runs
splits_same : (p q : ℕ → Bool) (ks : List ℕ) → ((k : ℕ) → p k ≡ q k) → slice_split (λ k. not (p k)) ks ≡ slice_split (λ k. not (q k)) ks
splits_same p q [] h = refl
splits_same p q (k ∷ ks) h = rw (h k, splits_same p q ks h) refl

runs_same : (p q : ℕ → Bool) (ks : List ℕ) → ((k : ℕ) → p k ≡ q k) → runs p ks ≡ runs q ks
unfolding runs
runs_same p q ks h = ap (filter (λ run. not (length run == 0))) (splits_same p q ks h)

pub runs_in_same : (p q : ℕ → Bool) (ranges : List Span) → ((k : ℕ) → p k ≡ q k) → runs_in p ranges ≡ runs_in q ranges
runs_in_same p q ranges h = flat_same (runs p) (runs q) (blocks 0 ranges) (λ ks. runs_same p q ks h)

-- one channel more that is taken is written
pub takes_more : (ranges : List Span) (ks : List ℕ) (index khz : ℕ) (old text more : List ℕ) → text ≡ old ++ flat_map (take_line ranges) (take index ks) → index < length ks
    → khz_at ranges (get_or ks index 0) ≡ khz → more ≡ text ++ line_of (codes "take" ∷ decimal khz ∷ []) → more ≡ old ++ flat_map (take_line ranges) (take (index + 1) ks)
takes_more ranges ks index khz old text more before low at e = rw (e, before, take_more ks index 0 low, ← at) (flat_map_more (take_line ranges) old (take index ks) (get_or ks index 0))

-- all that is written, one part after the other
pub answer_is : (ranges : List Span) (answer : Spares) (flags : List Bool) (start first second third all : List ℕ) → ((k : ℕ) → flag_at flags k ≡ is_among answer.free k)
    → start ≡ [] → first ≡ start ++ flat_map (run_line ranges) (runs_in (flag_at flags) ranges) → second ≡ first ++ (codes "channels " ++ (decimal (length answer.free) ++ 10 ∷ []))
    → third ≡ second ++ flat_map (take_line ranges) answer.taken → all ≡ third ++ (codes "taken " ++ (decimal (length answer.taken) ++ 10 ∷ []))
    → all ≡ answer_text ranges answer
answer_is ranges answer flags start first second third all same a b c d e =
    let runs = runs_in_same (flag_at flags) (is_among answer.free) ranges same in
    let free = flat_map (run_line ranges) (runs_in (is_among answer.free) ranges) in
    let many = codes "channels " ++ (decimal (length answer.free) ++ 10 ∷ []) in
    let taken = flat_map (take_line ranges) answer.taken in
    rw (e, d, c, b, a, runs, append-nil (decimal (length answer.free)), append-nil (decimal (length answer.taken))) (append_assoc (free ++ many) taken _ ∙ append_assoc free many _)
