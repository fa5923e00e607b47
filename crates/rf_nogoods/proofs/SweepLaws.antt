-- A sweep in which nothing fell leaves each line done.
use Rattle.std.proofs.Common.{◌≡◌, ℕ, ◌+◌, ◌<◌, ◌≤◌, List, [], ◌++◌, Bool, true, false, length, refl, sym, ◌∙◌, ap, subst, arith, inl, inr}
use Rattle.std.specs.Prelude.{All, Contains, Some, slice_index_or, take, drop}
use Rattle.std.proofs.Math.Seq.{take-append_seam}
use Rattle.std.specs.List.Sorted.{IsStrictlyIncreasing}
use Rattle.std.proofs.lemmas.Bool.{cases_eq, true≢false}
use Rattle.rf_log.specs.Case.{Case, counts_of}
use Rattle.rf_log.specs.Hints.{Line, line_at}
use Rattle.rf_log.specs.Relations.{members, IsLiving, IsSettled}
use Rattle.rf_trail.specs.Trace.{Trace, box_of}
use Rattle.rf_propagate.specs.Laws.{Extends, AreKnown, Blocks, numbers_of}
use Rattle.rf_propagate.proofs.LineLaws.{found_at}
use Rattle.rf_propagate.proofs.OpeningLaws.{same_at}
use Rattle.rf_propagate.proofs.BothLaws.{Kept, total, kept_on, fewer_kept, same_kept}
use Rattle.rf_propagate.specs.Openings.{AllFit}
use Rattle.rf_nogoods.specs.Removals.{IsDone, AreDone, IsFound, AreAmong}

-- where nothing fell up to here, the first lines are done
pub record IsSwept (case : Case) (all held : List Line) (start now : Trace) (n : ℕ) : Type 0 where
  pub kept : Kept case all start now
  pub done : total now ≡ total start → AreDone case (box_of now) held n

pub swept_none : (case : Case) (all held : List Line) (start : Trace) → Extends case all start.entries start.entries → IsSwept case all held start start 0
swept_none case all held start first = record {
  kept = record { counts = refl; sound = first };
  done = λ same. record { each = λ i d low known. absurd (omega arith) };
}

pub swept_more : (case : Case) (all held : List Line) (start mid now : Trace) (n : ℕ) (line : Line) → ((d : Line) → n < length held → slice_index_or held n d ≡ line)
    → IsSwept case all held start mid n → Kept case all mid now → IsDone case (box_of now) line.conds → IsSwept case all held start now (n + 1)
swept_more case all held start mid now n line at swept step done = record {
  kept = kept_on swept.kept step;
  done = λ same.
      let before = fewer_kept swept.kept in
      let after = fewer_kept step in
      let first : total mid ≡ total start = omega arith in
      let second : total now ≡ total mid = omega arith in
      let is = same_kept step second in
      let earlier = swept.done first in
      record {
        each = λ i d low known. elim (cases_eq i n) [
          | inl last ↦ subst (λ (x : ℕ). IsDone case (box_of now) (slice_index_or held x d).conds) (sym last)
              (subst (λ (x : Line). IsDone case (box_of now) x.conds) (sym (at d (omega (arith, last, known)))) done)
          | inr other ↦ subst (λ (has : ℕ → ℕ → Bool). IsDone case (members has) (slice_index_or held i d).conds) (sym is) (earlier.each i d (omega arith) known)
        ];
      };
}

-- ---- a line is found by its number

pub found_in : (lines : List Line) → IsStrictlyIncreasing (numbers_of lines) → (line : Line) → Contains lines line → IsFound lines line
found_in lines rising line has = record { is = found_at lines rising line has.0 has.1 has.2 }

-- what is held is found, and its conditions are in range
pub all_found : (held lines : List Line) → IsStrictlyIncreasing (numbers_of lines) → AreAmong held lines → All (IsFound lines) held
all_found held lines rising among k d low =
    found_in lines rising (slice_index_or held k d) (among.each (slice_index_or held k d) (k, low, same_at held k d (slice_index_or held k d) low))

pub all_fit : (case : Case) (held lines : List Line) → AreKnown case lines → AreAmong held lines → All (λ line. AllFit (counts_of case) line.conds) held
all_fit case held lines known among k d low = λ j e below.
    let line = slice_index_or held k d in
    let has : Contains lines line = among.each line (k, low, same_at held k d line low) in
    let range = known.each line has in
    let cond = slice_index_or line.conds j e in
    let here : Contains line.conds cond = (j, below, same_at line.conds j e cond below) in
    record { ordered = range.ordered cond here; known = range.known cond here }

-- the line that was read is the one at its place
pub item_is : (now held : List Line) (i : ℕ) (e d : Line) → now ≡ held → i < length held → slice_index_or held i d ≡ slice_index_or now i e
item_is now held i e d same low = same_at held i e d low ∙ ap (λ (ls : List Line). slice_index_or ls i e) (sym same)

pub item_found : (all now held : List Line) (i : ℕ) (d : Line) → now ≡ held → All (IsFound all) held → i < length held
    → line_at all (slice_index_or now i d).number ≡ Some (slice_index_or now i d).conds
item_found all now held i d same found low = (subst (λ (ls : List Line). IsFound all (slice_index_or ls i d)) (sym same) (found i d low)).is

-- what is held once the slice of the lines was written back as it was
pub held_after : (slice new items held : List Line) (len : ℕ) → new ≡ slice → slice ≡ held → length slice ≡ len
    → take len (new ++ drop (length new) items) ≡ held
held_after slice new items held len same is sized =
    subst (λ (n : ℕ). take n (new ++ drop (length new) items) ≡ held) (ap length same ∙ sized) (take-append_seam new (drop (length new) items) ∙ (same ∙ is))

pub fit_slice : (case : Case) (held slice lines : List Line) (counts : List ℕ) → slice ≡ held → counts ≡ counts_of case → AreKnown case lines → AreAmong held lines
    → All (λ line. AllFit counts line.conds) slice
fit_slice case held slice lines counts same is known among =
    subst (λ (ls : List Line). All (λ line. AllFit counts line.conds) ls) (sym same)
    (subst (λ (ns : List ℕ). All (λ line. AllFit ns line.conds) held) (sym is) (all_fit case held lines known among))

pub found_slice : (held slice lines : List Line) → slice ≡ held → IsStrictlyIncreasing (numbers_of lines) → AreAmong held lines → All (IsFound lines) slice
found_slice held slice lines same rising among = subst (λ (ls : List Line). All (IsFound lines) ls) (sym same) (all_found held lines rising among)

pub blocks_from : (case : Case) (b : ℕ → ℕ → Type 0) (held slice : List Line) → slice ≡ held → AreDone case b slice (length slice) → IsLiving case b → Blocks case b held
blocks_from case b held slice same done living = record {
  each = λ some line has.
      let at = subst (λ (ls : List Line). AreDone case b ls (length ls)) same done in
      (subst (λ (x : Line). IsDone case b x.conds) has.2 (at.each has.0 line has.1 has.1)).blocked living some;
}

pub left_less : (a b : Trace) (x y : ℕ) → x ≡ total a → y ≡ total b → (x ≡ y → ⊥) → total a ≤ total b → total a < total b
left_less a b x y first second other fewer = omega arith

pub not_asked : {A : Type 0} → false ≡ true → A
not_asked e = absurd (true≢false (sym e))

-- of no kind nothing falls
pub settled_none : (case : Case) (b : ℕ → ℕ → Type 0) → IsSettled case [] b
settled_none case b c k here struck = absurd (omega (arith, struck.among.1))
