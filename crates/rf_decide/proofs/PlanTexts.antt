-- The lines of a plan, one carrier after another.
use Rattle.std.proofs.Common.{◌≡◌, ℕ, ◌<◌, ◌≤◌, ◌+◌, ◌++◌, List, [], length, take, get_or, ap, sym, ◌∙◌, arith, slice_index}
use Rattle.std.proofs.lemmas.List.{get_or-map}
use Rattle.std.proofs.lemmas.List.FromFn.{get_or-map-range_with_len, length-map-range_with_len}
use Rattle.rf_log.specs.Case.{freq_of}
use Rattle.rf_show.specs.Case.{case_of}
use Rattle.rf_show.specs.Show.{ShowData, carrier_names}
use Rattle.rf_show.specs.declared.carrier.Carrier.{Carrier}
use Rattle.rf_solving.specs.Solving.{at_line, at_lines, plan_freqs}
use Rattle.rf_solving.proofs.LinesLaws.{lines_more, lines_whole}
use Rattle.rf_decide.specs.Texts.{plan_text}
use Rattle.rf_show.proofs.KeptLaws.{names_many}

-- the lines of the first carriers
abbrev pub lines_below : ShowData → List ℕ → ℕ → List ℕ
lines_below show plan k = at_lines (take k (carrier_names show.carriers)) (take k (plan_freqs show plan))

as_many : (show : ShowData) (plan : List ℕ) → length (carrier_names show.carriers) ≡ length (plan_freqs show plan)
as_many show plan =
    names_many show ∙ sym (length-map-range_with_len (λ c. freq_of (case_of show) c (slice_index plan c)) 0 (length show.carriers))

-- one line more
pub line_more : (show : ShowData) (plan : List ℕ) (i : ℕ) (carrier other : Carrier) (khz : ℕ) (old new : List ℕ) → i < length show.carriers
    → carrier ≡ get_or show.carriers i other → khz ≡ freq_of (case_of show) i (slice_index plan i)
    → old ≡ lines_below show plan i → new ≡ old ++ at_line carrier.name khz → new ≡ lines_below show plan (i + 1)
line_more show plan i carrier other khz old new low is tuned was made =
    let named : carrier.name ≡ get_or (carrier_names show.carriers) i [] = ap (λ (c : Carrier). c.name) is ∙ sym (get_or-map (λ (c : Carrier). c.name) show.carriers i other [] low) in
    let found : khz ≡ get_or (plan_freqs show plan) i 0 =
    tuned ∙ sym (get_or-map-range_with_len (λ c. freq_of (case_of show) c (slice_index plan c)) 0 (length show.carriers) i i 0 low (omega arith)) in
    made
    ∙ ap (λ text. text ++ at_line carrier.name khz) was
    ∙ ap (λ a. lines_below show plan i ++ at_line a khz) named
    ∙ ap (λ b. lines_below show plan i ++ at_line (get_or (carrier_names show.carriers) i []) b) found
    ∙ sym (lines_more (carrier_names show.carriers) (plan_freqs show plan) i [] 0 (as_many show plan) (omega (arith, low, names_many show)))

-- the lines of all carriers
pub line_all : (show : ShowData) (plan : List ℕ) (i : ℕ) (text : List ℕ) → length show.carriers ≤ i → text ≡ lines_below show plan i → text ≡ plan_text show plan
line_all show plan i text high is =
    is ∙ lines_whole (carrier_names show.carriers) (plan_freqs show plan) i (as_many show plan) (omega (arith, high, names_many show))
