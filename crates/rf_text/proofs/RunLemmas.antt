-- The runs of neighbours that pass a test.
use Rattle.std.proofs.Common.{◌≡◌, zero-add, get_or, length-append, take, ◌<◌, ◌≤◌, ◌+◌, ◌-◌, ◌++◌, ℕ, List, [], ◌∷◌, length, append-nil, append_assoc, ap, arith, refl}
use Rattle.std.specs.Prelude.{decimal, string_bytes, sum_by, slice_get, Some, String}
use Rattle.std.specs.declared.alloc.Global.{Global}
use Rattle.std.proofs.lemmas.List.{take_more}
use Rattle.std.proofs.lemmas.List.Concat.{flat_map-append}
use Rattle.std.proofs.lemmas.List.Sums.{sum_by-append, sum_by-cons}
use Rattle.std.proofs.lemmas.List.FromFn.{length-range_with_len}
use Rattle.std.specs.List.{flat_map, range_with_len}
use Rattle.rf_profiles.specs.Channels.{channels}
use Rattle.rf_profiles.specs.Range.{Span, frequencies}
use Rattle.rf_profiles.specs.declared.profile.Profile.{Profile}
use Rattle.rf_show.specs.Query.{is_allowed, profile_of}
use Rattle.rf_show.specs.Show.{ShowData}
use Rattle.rf_text.specs.Free.{khz_at, run_line}
use Rattle.rf_base.specs.Lines.{line_of}
use Rattle.rf_profiles.specs.Runs.{blocks, runs, IsNextRun}
use Rattle.rf_profiles.proofs.RunLaws.{run_ends, blocks-push}

-- the frequency of a carrier's channel, by its profile
pub khz_is : (show : ShowData) (c k : ℕ) (p : Profile) (khz : ℕ) → profile_of show c ≡ Some p → slice_get (channels p.channels) k ≡ Some khz → khz_at show c k ≡ khz
khz_is show c k p khz a b = rw (a, b) refl

pub run_line_is : (show : ShowData) (c first stop lowest highest : ℕ) → first < stop → khz_at show c first ≡ lowest → khz_at show c (stop - 1) ≡ highest
    → run_line show c (range_with_len first (stop - first)) ≡ line_of (decimal lowest ∷ decimal highest ∷ decimal (stop - first) ∷ [])
unfolding run_line
run_line_is show c first stop lowest highest h a b = let ends = run_ends first stop h in rw (ends.lowest, ends.highest, ends.count, a, b) refl

-- What is written of the runs from `start` up to `end`, where those from `next` on are left.
pub record Written (show : ShowData) (c : ℕ) (old : String Global) (start end : ℕ) (text : String Global) (total next : ℕ) : Type 0 where
  pub low : start ≤ next
  pub high : next ≤ end
  pub few : total ≤ next - start
  pub lines : string_bytes text ++ flat_map (run_line show c) (runs (is_allowed show c) (range_with_len next (end - next)))
      ≡ string_bytes old ++ flat_map (run_line show c) (runs (is_allowed show c) (range_with_len start (end - start)))
  pub count : total + sum_by length (runs (is_allowed show c) (range_with_len next (end - next))) ≡ sum_by length (runs (is_allowed show c) (range_with_len start (end - start)))

-- one run more is written
pub written_more : (show : ShowData) (c : ℕ) (old : String Global) (start end : ℕ) (text more : String Global) (total next first stop : ℕ)
    → Written show c old start end text total next → IsNextRun (is_allowed show c) next end first stop
    → string_bytes more ≡ string_bytes text ++ run_line show c (range_with_len first (stop - first))
    → Written show c old start end more (total + (stop - first)) stop
written_more show c old start end text more total next first stop w n e =
    let is = n.is in
    record {
      low = omega (arith, w.low, n.after, n.some);
      high = n.within;
      few = omega (arith, w.few, n.after, n.some, w.low);
      lines = rw (e, append_assoc) (rw is at w.lines);
      count = omega (
        arith,
        ap (λ found. sum_by length found) is,
        w.count,
        length-range_with_len first (stop - first),
        sum_by-cons length (range_with_len first (stop - first)) (runs (is_allowed show c) (range_with_len stop (end - stop))),
      );
    }

-- ---- the ranges of a profile

-- What is written of the first ranges of a profile, where the channels of the next begin at `next`.
pub record RangesWritten (show : ShowData) (c : ℕ) (old : String Global) (ranges : List Span) (index : ℕ) (text : String Global) (total next : ℕ) : Type 0 where
  pub begins : next ≡ length (channels (take index ranges))
  pub few : total ≤ next
  pub lines : string_bytes text ≡ string_bytes old ++ flat_map (run_line show c) (flat_map (runs (is_allowed show c)) (blocks 0 (take index ranges)))
  pub count : total ≡ sum_by length (flat_map (runs (is_allowed show c)) (blocks 0 (take index ranges)))

-- one range more is written
pub ranges_more : (show : ShowData) (c : ℕ) (old : String Global) (ranges : List Span) (index : ℕ) (text more : String Global) (total next found : ℕ) (range : Span)
    → RangesWritten show c old ranges index text total next → index < length ranges → range ≡ get_or ranges index range
    → string_bytes more ≡ string_bytes text ++ flat_map (run_line show c) (runs (is_allowed show c) (range_with_len next (length (frequencies range))))
    → found ≡ sum_by length (runs (is_allowed show c) (range_with_len next (length (frequencies range)))) → found ≤ length (frequencies range)
    → RangesWritten show c old ranges (index + 1) more (total + found) (next + length (frequencies range))
ranges_more show c old ranges index text more total next found range w h e t f few =
    let taken : take (index + 1) ranges ≡ take index ranges ++ range ∷ [] = let more = take_more ranges index range h in rw (← e) at more in
    let begins = w.begins in
    let block : blocks 0 (take (index + 1) ranges) ≡ blocks 0 (take index ranges) ++ range_with_len next (length (frequencies range)) ∷ [] =
    rw (taken, blocks-push, zero-add, ← begins) refl in
    record {
      begins = rw taken (simp (flat_map-append, length-append, append-nil) (omega (arith, begins)));
      few = omega (arith, w.few);
      lines = rw (block, t, w.lines) (simp (flat_map-append, append_assoc, append-nil));
      count = rw (block, f, w.count) (simp (flat_map-append, append-nil, sum_by-append));
    }
