use Rattle.std.proofs.Common.{◌≡◌, ℕ, List, length, ap, sym, ◌∙◌, slice_index}
use Rattle.std.proofs.lemmas.List.{length-map}
use Rattle.std.proofs.lemmas.List.FromFn.{length-map-range_with_len}
use Rattle.rf_log.specs.Case.{freq_of}
use Rattle.rf_show.specs.Case.{case_of}
use Rattle.rf_show.specs.Show.{ShowData, carrier_names}
use Rattle.rf_solving.specs.Solving.{plan_freqs}
use Rattle.rf_solving.proofs.solving.found_of.Goals as goal

-- there is a frequency for each name
each_has_one : (show : ShowData) (plan : List ℕ) (names : List (List ℕ)) (freqs : List ℕ) → names ≡ carrier_names show.carriers → freqs ≡ plan_freqs show plan
    → length names ≡ length freqs
each_has_one show plan names freqs named are =
    ap length named ∙ length-map show.carriers (λ c. c.name)
    ∙ sym (length-map-range_with_len (λ c. freq_of (case_of show) c (slice_index plan c)) 0 (length show.carriers)) ∙ sym (ap length are)

pub write_ats-requires : goal.write_ats-requires
write_ats-requires c =
    each_has_one c.args.show.now _ _ _ c.requires.names
    (c.as_slice-in-Plan.ensures.value ∙ c.in_ok-freqs-in-Plan.ensures)
