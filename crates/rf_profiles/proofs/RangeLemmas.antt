use Rattle.std.proofs.Common.{◌≡◌, ℕ, zero, suc, ◌+◌, ◌-◌, ◌*◌, ◌/◌, ◌%◌, ◌<◌, ◌≤◌, List, [], ◌∷◌, length, get_or, slice_get, Option, Some, None, IsSome, Contains, refl, ap, sym, ◌∙◌, arith}
use Rattle.std.proofs.lemmas.Bool.{le-leb, lt-leb}
use Rattle.std.proofs.lemmas.Nat.{div-add-mod', mod_below}
use Rattle.std.specs.Option.{SomeIff}
use Rattle.rf_base.specs.Khz.{IsKhz}
use Rattle.std.proofs.lemmas.Option.{slice_get-get_or}
use Rattle.std.proofs.Math.Nat.{mul-mod_left}
use Rattle.rf_profiles.specs.Range.{Span, IsRange, climb, frequencies}

-- n numbers from f on, each by a step above the one before
abbrev pub ladder : ℕ → ℕ → ℕ → List ℕ
ladder zero f step = []
ladder (suc n) f step = f ∷ ladder n (f + step) step

pub length-ladder : (n f step : ℕ) → length (ladder n f step) ≡ n
length-ladder zero f step = refl
length-ladder (suc n) f step = ap suc (length-ladder n (f + step) step)

pub get_or-ladder : (n f step k d : ℕ) → k < n → get_or (ladder n f step) k d ≡ f + k * step
get_or-ladder zero f step k d h = absurd (omega arith)
get_or-ladder (suc n) f step zero d h = omega arith
get_or-ladder (suc n) f step (suc k) d h = omega (arith, get_or-ladder n (f + step) step k d (omega arith))

pub climb-past : (n f to step : ℕ) → to < f → climb n f to step ≡ []
unfolding climb
climb-past zero f to step h = refl
climb-past (suc n) f to step h = rw (lt-leb f to h) refl

-- climbing takes q steps where that many fit and no more
pub climb_is : (q n f to step : ℕ) → q < n → f + q * step ≤ to → to < f + q * step + step → climb n f to step ≡ ladder (suc q) f step
unfolding climb
climb_is q zero f to step more fits last = absurd (omega arith)
climb_is zero (suc n) f to step more fits last = rw (le-leb f to (omega arith), climb-past n (f + step) to step (omega arith)) refl
climb_is (suc q) (suc n) f to step more fits last =
    rw (le-leb f to (omega arith), climb_is q n (f + step) to step (omega arith) (omega arith) (omega arith)) refl

-- how many steps of a range fit
abbrev pub steps_of : Span → ℕ
steps_of r = (r.to - r.from) / r.step

pub steps_fit : (r : Span) → IsRange r → (r.from + steps_of r * r.step ≤ r.to) × (r.to < r.from + steps_of r * r.step + r.step)
steps_fit r h =
    let whole : (r.to - r.from) / r.step * r.step + (r.to - r.from) % r.step ≡ r.to - r.from = div-add-mod' (r.to - r.from) r.step in
    let rest : (r.to - r.from) % r.step < r.step = mod_below (r.to - r.from) r.step h.stride.0 in
    let o : r.from ≤ r.to = h.ordered in
    (omega arith, omega arith)

-- a step is at least 1
pub grows : (n step : ℕ) → 1 ≤ step → n ≤ n * step
grows n step h = grind arith

pub frequencies_is : (r : Span) → IsRange r → frequencies r ≡ ladder (suc (steps_of r)) r.from r.step
unfolding frequencies
frequencies_is r h =
    let fit = steps_fit r h in
    let many = grows (steps_of r) r.step h.stride.0 in
    let low : 1 ≤ r.from = h.low.0 in
    climb_is (steps_of r) r.to r.from r.to r.step (omega arith) fit.0 fit.1

pub length-frequencies : (r : Span) → IsRange r → length (frequencies r) ≡ steps_of r + 1
length-frequencies r h = rw (frequencies_is r h) (omega (arith, length-ladder (suc (steps_of r)) r.from r.step))

pub frequency_at : (r : Span) → IsRange r → (k d : ℕ) → k < length (frequencies r) → get_or (frequencies r) k d ≡ r.from + k * r.step
frequency_at r h k d within =
    rw (frequencies_is r h) (get_or-ladder (suc (steps_of r)) r.from r.step k d (omega (arith, length-frequencies r h)))

pub frequency_within : (r : Span) → IsRange r → (k : ℕ) → k < length (frequencies r) → r.from + k * r.step ≤ r.to
frequency_within r h k within =
    let fit = steps_fit r h in
    let few : k ≤ steps_of r = omega (arith, length-frequencies r h) in
    let less : k * r.step ≤ steps_of r * r.step = grind arith in
    omega arith

pub slice_get-frequencies : (r : Span) → IsRange r → (k : ℕ) → k < length (frequencies r) → slice_get (frequencies r) k ≡ Some (r.from + k * r.step)
slice_get-frequencies r h k within = slice_get-get_or (frequencies r) k 0 within ∙ ap Some (frequency_at r h k 0 within)

-- a number on the grid, between the ends
pub on_grid : (r : Span) → IsRange r → (f : ℕ) → r.from ≤ f → f ≤ r.to → (f - r.from) % r.step ≡ 0 → slice_get (frequencies r) ((f - r.from) / r.step) ≡ Some f
on_grid r h f low high even =
    let k : ℕ = (f - r.from) / r.step in
    let whole : k * r.step + (f - r.from) % r.step ≡ f - r.from = div-add-mod' (f - r.from) r.step in
    let is : r.from + k * r.step ≡ f = omega arith in
    let fit = steps_fit r h in
    let pos : 1 ≤ r.step = h.stride.0 in
    let few : k * r.step < (steps_of r + 1) * r.step = omega arith in
    let within : k < steps_of r + 1 = grind arith in
    slice_get-frequencies r h k (omega (arith, length-frequencies r h)) ∙ ap Some is

pub off_grid : (r : Span) → IsRange r → (f : ℕ) → Contains (frequencies r) f → (r.from ≤ f) × (f ≤ r.to) × ((f - r.from) % r.step ≡ 0)
off_grid r h f (k, within, is) =
    let at : f ≡ r.from + k * r.step = sym is ∙ frequency_at r h k f within in
    let high = frequency_within r h k within in
    let less : f - r.from ≡ k * r.step = omega arith in
    (omega arith, omega arith, ap (λ n. n % r.step) less ∙ mul-mod_left k r.step)

-- a value that comes where P holds
pub some_iff : {T : Type 0} (o : Option T) (P : Type 0) (v : T) → SomeIff o P v → P → o ≡ Some v
some_iff None P v h p = absurd (h p)
some_iff (Some x) P v h p = ap Some h.1

pub is_some_iff : {T : Type 0} (o : Option T) (P : Type 0) (v : T) → SomeIff o P v → P → IsSome o
is_some_iff o P v h p = rw (some_iff o P v h p) refl

pub khz_at : (r : Span) → IsRange r → (k : ℕ) → k < length (frequencies r) → IsKhz (r.from + k * r.step)
khz_at r h k within =
    let top = frequency_within r h k within in
    let low : 1 ≤ r.from = h.low.0 in
    let high : r.to ≤ 10000000 = h.high.1 in
    (omega arith, omega arith)
