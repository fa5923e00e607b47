-- Lemmas on the channels of a profile, and on what a field has open.
use Rattle.std.proofs.Common.{drop, ◌≡◌, ◌<◌, ◌≤◌, ◌+◌, ◌-◌, ℕ, Bool, ◌&&◌, List, length, ap, sym, ◌∙◌, arith, subst, take, zero, suc, true, [], ◌∷◌, refl, get_or, ◌||◌}
use Rattle.std.specs.Prelude.{Some, nat_le, nat_lt, not, slice_get, slice_index}
use Rattle.std.specs.List.Sorted.{IsStrictlyIncreasing}
use Rattle.std.specs.List.{list_any}
use Rattle.std.proofs.lemmas.Bool.Decides.{nat_tests}
use Rattle.std.proofs.lemmas.Option.{get_or_from_slice_get}
use Rattle.rf_spares.specs.Exclusions.{bans_newcomer}
use Rattle.rf_spares.specs.Fields.{IsField, IsSwept, channels_of, is_open}
use Rattle.rf_spares.specs.Markings.{Spans, is_marked, Gains}
use Rattle.rf_spares.specs.declared.field.Field.{Field}
use Rattle.rf_spares.specs.declared.field.Sweep.{Sweep}
use Rattle.rf_spares.specs.declared.marks.Marks.{Marks}
use Rattle.rf_profiles.specs.Channels.{IsChannels, channels}
use Rattle.rf_profiles.specs.Range.{Span, climb, frequencies}

-- ---- channels

climb-first : (n f to step : ℕ) → 0 < n → f ≤ to → climb n f to step ≡ f ∷ drop 1 (climb n f to step)
unfolding climb
climb-first zero f to step some h = absurd (omega (arith, some))
climb-first (suc n) f to step some h = let e : nat_le f to ≡ true = grind (arith, nat_tests) in rw e refl

-- the first channel of a profile is where the first range begins
pub first-channel : (rs : List Span) (d : Span) → IsChannels rs → channels rs ≡ (get_or rs 0 d).from ∷ drop 1 (channels rs)
unfolding frequencies
first-channel [] d h = absurd (omega (arith, h.some))
first-channel (r ∷ rs) d h = let range = h.rising.0 in rw (climb-first r.to r.from r.to r.step (omega (arith, range.ordered, range.low.0)) range.ordered) refl

-- a later number isn't below an earlier one
pub rising-at : (xs : List ℕ) (d i j : ℕ) → IsStrictlyIncreasing xs → j ≡ i + d → j < length xs → slice_index xs i + d ≤ slice_index xs j
rising-at xs zero i j h e low = let f : j ≡ i = omega (arith, e) in rw f (omega arith)
rising-at xs (suc d) i j h e low =
    let k : j ≡ (i + d) + 1 = omega (arith, e) in
    let ih = rising-at xs d i (i + d) h refl (omega (arith, low, e)) in
    let step = h (i + d) (omega (arith, low, e)) in
    rw k (omega (arith, ih, step))

-- ---- what is open

-- the channels behind one are above it
pub ahead-next : (chs : List ℕ) (k khz reach : ℕ) → IsStrictlyIncreasing chs → slice_index chs k ≡ khz → reach ≡ khz + 1 → (j : ℕ) → k + 1 ≤ j → j < length chs → reach ≤ slice_index chs j
ahead-next chs k khz reach h e r j low high = omega (arith, rising-at chs (j - k) k j h (omega (arith, low)) high, e, r, low)

-- a frequency is open where it isn't banned and lies behind what was met
pub open-value : (field : Field) (sweep : Sweep) (f : ℕ) (banned : Bool) → IsField field → IsSwept field sweep f → Spans field.marks f → f ≤ 10000000
    → banned ≡ bans_newcomer field.crowd.show.now field.crowd.profile field.crowd.zone f → (not banned && nat_le sweep.reach f) ≡ is_open field f
unfolding is_marked
open-value field sweep f banned known swept spans few e =
    let place : sweep.place ≡ f + 1 - field.marks.low = omega (arith, swept.place) in
    let harmed = swept.reached f ∙ ap (λ n. list_any (nat_lt f) (take n field.marks.ends.items)) place ∙ known.marks f few spans in
    grind (arith, nat_tests, harmed, e)

-- each channel lies between the first and the last
pub channels-between : (rs : List Span) (d : Span) (low high : ℕ) → IsChannels rs → IsStrictlyIncreasing (channels rs) → low ≡ (get_or rs 0 d).from
    → slice_get (channels rs) (length (channels rs) - 1) ≡ Some high → (k : ℕ) → k < length (channels rs) → (low ≤ slice_index (channels rs) k) × (slice_index (channels rs) k ≤ high)
channels-between rs d low high form h e g k inside =
    let start = ap (λ cs. slice_index cs 0) (first-channel rs d form) in
    let end = get_or_from_slice_get (channels rs) (length (channels rs) - 1) high 0 g in
    let first = rising-at (channels rs) k 0 k h (omega arith) inside in
    let last = rising-at (channels rs) (length (channels rs) - 1 - k) k (length (channels rs) - 1) h (omega (arith, inside)) (omega (arith, inside)) in
    (omega (arith, first, e, start), omega (arith, last, end))

-- the frequency of a channel
pub khz-at : (field : Field) (chs : List ℕ) (k f : ℕ) → chs ≡ channels_of field → slice_get chs k ≡ Some f → slice_index (channels_of field) k ≡ f
khz-at field chs k f e h = ap (λ cs. slice_index cs k) (sym e) ∙ get_or_from_slice_get chs k f 0 h

-- has a place among the marks
pub khz-spans : (field : Field) (chs : List ℕ) (k f : ℕ) → IsField field → chs ≡ channels_of field → slice_get chs k ≡ Some f → k < length chs → Spans field.marks f
khz-spans field chs k f known e h inside = subst (λ g. Spans field.marks g) (khz-at field chs k f e h) (known.spans k (omega (arith, inside, ap length e)))

-- ---- marks of a field

-- those that are gained beside the old ones
pub gained-marks : (a b : Marks) (p q : ℕ → Bool) → ((f : ℕ) → f ≤ 10000000 → Spans a f → is_marked a f ≡ p f) → Gains a b q
    → (f : ℕ) → f ≤ 10000000 → Spans b f → is_marked b f ≡ (p f || q f)
gained-marks a b p q known gains f few spans =
    let old : Spans a f = (omega (arith, spans.0, gains.low), omega (arith, spans.1, gains.low, gains.size)) in
    gains.marks f few old ∙ ap (λ x. x || q f) (known f few old)
