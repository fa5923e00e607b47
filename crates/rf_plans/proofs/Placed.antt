-- A show in which a plan was placed.
use Rattle.std.proofs.Common.{◌≡◌, ◌<◌, ◌∙◌, ℕ, true, List, [], ◌∷◌, length, map, arith, refl, ap, sym, subst, Some, None, Ok, is_some, slice_index, unwrap_or, ext_get_or}
use Rattle.std.specs.declared.option.Option.{Option}
use Rattle.std.proofs.lemmas.List.{get_or-map, length-map}
use Rattle.std.proofs.lemmas.List.FromFn.{get_or-map-range_with_len, length-map-range_with_len}
use Rattle.rf_log.specs.Case as case
use Rattle.rf_log.specs.Case.{freq_of}
use Rattle.rf_show.proofs.PlaceLaws.{length-placed}
use Rattle.rf_show.specs.After.{after, after_unless, placed, refusal}
use Rattle.rf_show.specs.Case.{Agree, case_of}
use Rattle.rf_show.specs.Query.{channel_of}
use Rattle.rf_show.specs.Show.{ShowData}
use Rattle.rf_show.specs.declared.carrier.Carrier.{Carrier}
use Rattle.rf_show.specs.declared.refusal.Refusal.{Refusal}
use Rattle.rf_rules.specs.Plans.{IsPlan, planned}
use Rattle.rf_solving.specs.Placing.{plan_edit}
use Rattle.rf_solving.specs.Solving.{plan_freqs}
use Rattle.rf_plans.specs.Clear.{IsClear, StandOn}
use Rattle.rf_plans.proofs.Alike.{alike_itself, alike_placed}
use Rattle.rf_plans.proofs.ClearShows.{all_clear, stand_on}
use Rattle.rf_plans.proofs.Planned.{channel_khz, channel_there, length_planned, plan_same, planned_at}

-- the show of an edit that was made
made : (o : Option Refusal) (show new : ShowData) → after_unless o show ≡ Ok new → show ≡ new
made None show new h = cc
made (Some reason) show new h = cc

ats_placed : (cs : List Carrier) (ats : List (Option ℕ)) → length ats ≡ length cs → map (λ (c : Carrier). c.at) (placed cs ats) ≡ ats
ats_placed [] [] h = refl
ats_placed [] (at ∷ ats) h = absurd (omega arith)
ats_placed (c ∷ cs) [] h = absurd (omega arith)
ats_placed (c ∷ cs) (at ∷ ats) h = ap (λ more. at ∷ more) (ats_placed cs ats (omega arith))

there : (o : Option ℕ) → is_some o ≡ true → o ≡ Some (unwrap_or o 0)
there None h = cc
there (Some f) h = refl

-- a plan is placed at its channels
freqs_planned : (show : ShowData) (plan : List ℕ) → Agree show (case_of show) → IsPlan show plan → map Some (plan_freqs show plan) ≡ planned show plan
freqs_planned show plan agree is =
    let freq : ℕ → ℕ = λ c. freq_of (case_of show) c (slice_index plan c) in
    let full = is.full in
    let long : length (plan_freqs show plan) ≡ length show.carriers = length-map-range_with_len freq 0 (length show.carriers) in
    let all : length (map Some (plan_freqs show plan)) ≡ length show.carriers = length-map (plan_freqs show plan) Some ∙ long in
    ext_get_or None (map Some (plan_freqs show plan)) (planned show plan) (all ∙ (sym full ∙ sym (length_planned show plan))) (λ c low.
    let inside : c < length show.carriers = omega (arith, low, all) in
    let in_plan : c < length plan = omega (arith, inside, full) in
    get_or-map Some (plan_freqs show plan) c 0 None (omega (arith, inside, long))
    ∙ (ap Some (get_or-map-range_with_len freq 0 (length show.carriers) c c 0 inside (omega arith))
    ∙ (sym (there (channel_of show c (slice_index plan c)) (channel_there show c (slice_index plan c) (is.allowed c in_plan)) ∙ ap Some (channel_khz show agree c (slice_index plan c) inside))
    ∙ sym (planned_at show plan c in_plan))))

pub placed_clear : (show new : ShowData) (plan : List ℕ) → Agree show (case_of show) → case.IsPlan (case_of show) plan → after show (plan_edit show plan) ≡ Ok new → IsClear new
placed_clear show new plan agree is done =
    let ats = map Some (plan_freqs show plan) in
    let own = (plan_same show plan agree).1 is in
    let full = own.full in
    let planned_is = freqs_planned show plan agree own in
    let many : length ats ≡ length show.carriers = ap length planned_is ∙ (length_planned show plan ∙ full) in
    let next : ShowData = record show { carriers = placed show.carriers ats } in
    let same : next ≡ new = made (refusal show (plan_edit show plan)) next new done in
    subst IsClear same (all_clear show next plan (alike_placed show ats) own (ats_placed show.carriers ats many ∙ planned_is) (length-placed show.carriers ats ∙ sym full))

pub standing_clear : (show : ShowData) (plan : List ℕ) → Agree show (case_of show) → case.IsPlan (case_of show) plan → StandOn show plan → IsClear show
standing_clear show plan agree is stand =
    let own = (plan_same show plan agree).1 is in
    all_clear show show plan (alike_itself show) own (stand_on show plan own.full stand) (sym own.full)
