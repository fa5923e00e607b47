-- A plan of a show is one of its case.
use Rattle.std.proofs.Common.{◌≡◌, ◌<◌, ◌∙◌, ◌↔◌, ℕ, Bool, true, false, ◌&&◌, List, [], ◌∷◌, length, map, get_or, arith, refl, ap, sym, Some, None}
use Rattle.std.specs.Prelude.{All, ◌==◌, nat_lt, is_some, slice_get, slice_index, unsigned_abs, unwrap_or}
use Rattle.std.specs.declared.option.Option.{Option}
use Rattle.std.specs.List.{list_all}
use Rattle.std.specs.Option.{option_and_then, option_map_or}
use Rattle.std.proofs.lemmas.Bool.{and_parts, eqb-true, ltb-true}
use Rattle.std.proofs.lemmas.List.{get_or-map, length-map}
use Rattle.std.proofs.lemmas.List.Elements.{All-head, All-tail}
use Rattle.std.proofs.lemmas.List.Sums.{AllPass-from_list_all}
use Rattle.std.proofs.lemmas.Option.{unwrap_or-slice_get}
use Rattle.rf_terms.specs.Forms.{value_of}
use Rattle.rf_terms.specs.Kinds.{roles_of}
use Rattle.rf_terms.specs.declared.kind.Kind.{Kind}
use Rattle.rf_profiles.specs.Channels.{channels}
use Rattle.rf_profiles.specs.declared.profile.Profile.{Profile}
use Rattle.rf_log.specs.Case as case
use Rattle.rf_log.specs.Case.{are_distinct, are_together, breaks, freq_of}
use Rattle.rf_show.specs.Case.{Agree, case_of}
use Rattle.rf_show.specs.Query.{channel_of, is_allowed, margin_of, may_take, profile_of}
use Rattle.rf_show.specs.Show.{ShowData}
use Rattle.rf_rules.specs.Instances.{are_assigned, at_in, distance_of, is_broken, is_candidate, is_instance, khz_in}
use Rattle.rf_rules.specs.Plans.{IsPlan, planned}
use Rattle.rf_rules.specs.Tuples.{upto}
use Rattle.rf_rules.proofs.TupleLaws.{get_or-upto, length-upto}
use Rattle.rf_plans.proofs.Instances.{instance_same}

-- ---- the frequencies of a plan

pub length_planned : (show : ShowData) (plan : List ℕ) → length (planned show plan) ≡ length plan
length_planned show plan = length-map (upto (length plan)) (λ c. channel_of show c (slice_index plan c)) ∙ length-upto (length plan)

pub planned_at : (show : ShowData) (plan : List ℕ) (c : ℕ) → c < length plan → at_in (planned show plan) c ≡ channel_of show c (slice_index plan c)
planned_at show plan c low =
    let at : ℕ → Option ℕ = λ k. channel_of show k (slice_index plan k) in
    let long = length-upto (length plan) in
    get_or-map at (upto (length plan)) c c None (omega (arith, low, long)) ∙ ap at (get_or-upto (length plan) c c low)

some_if : (o : Option ℕ) (test : ℕ → Bool) → option_map_or test o false ≡ true → is_some o ≡ true
some_if None test h = h
some_if (Some f) test h = refl

-- a channel that is allowed is there
pub channel_there : (show : ShowData) (c k : ℕ) → is_allowed show c k ≡ true → is_some (channel_of show c k) ≡ true
channel_there show c k h = some_if (channel_of show c k) (may_take show c) h

khz_of : (o : Option Profile) (k : ℕ)
    → unwrap_or (option_and_then (λ (p : Profile). slice_get (channels p.channels) k) o) 0 ≡ slice_index (option_map_or (λ (p : Profile). channels p.channels) o []) k
khz_of None k = refl
khz_of (Some p) k = unwrap_or-slice_get (channels p.channels) k 0

-- a channel has the same frequency in the case
pub channel_khz : (show : ShowData) → Agree show (case_of show) → (c k : ℕ) → c < length show.carriers → unwrap_or (channel_of show c k) 0 ≡ freq_of (case_of show) c k
channel_khz show agree c k low = khz_of (profile_of show c) k ∙ sym (ap (λ fs. slice_index fs k) (agree.freqs c low))

-- ---- the instances that it breaks

all_some : (ats : List (Option ℕ)) (roles : List ℕ) → All (λ c. is_some (at_in ats c) ≡ true) roles → are_assigned ats roles ≡ true
all_some ats [] h = refl
all_some ats (c ∷ roles) h =
    let first : is_some (at_in ats c) ≡ true = All-head (λ c. is_some (at_in ats c) ≡ true) c roles h in
    let rest = all_some ats roles (All-tail (λ c. is_some (at_in ats c) ≡ true) c roles h) in
    rw (first, rest) refl

all_khz : (ats : List (Option ℕ)) (khz : ℕ → ℕ) (roles : List ℕ) → All (λ c. khz_in ats c ≡ khz c) roles → map (khz_in ats) roles ≡ map khz roles
all_khz ats khz [] h = refl
all_khz ats khz (c ∷ roles) h =
    ap (λ f. f ∷ map (khz_in ats) roles) (All-head (λ c. khz_in ats c ≡ khz c) c roles h)
    ∙ ap (λ fs. khz c ∷ fs) (all_khz ats khz roles (All-tail (λ c. khz_in ats c ≡ khz c) c roles h))

-- What a plan and its channels keep, in both words.
pub record Fits (show : ShowData) (plan : List ℕ) : Type 0 where
  pub agree : Agree show (case_of show)
  pub full : length plan ≡ length show.carriers
  pub allowed : (c : ℕ) → c < length plan → is_allowed show c (slice_index plan c) ≡ true

-- an instance of a show is broken where it is one and the case's is broken
broken_same : (show : ShowData) (plan : List ℕ) → Fits show plan → (kind : Kind) (roles : List ℕ) → length roles ≡ roles_of kind → All (λ c. c < length plan) roles
    → is_broken show (planned show plan) kind roles ≡ (breaks (case_of show) kind roles (slice_index plan) && is_instance show kind roles)
unfolding is_broken is_candidate distance_of
broken_same show plan fits kind roles n low =
    let ats = planned show plan in
    let full = fits.full in
    let there : are_assigned ats roles ≡ true =
    all_some ats roles (λ k d inside.
    ap is_some (planned_at show plan (get_or roles k d) (low k d inside))
    ∙ channel_there show (get_or roles k d) _ (fits.allowed (get_or roles k d) (low k d inside))) in
    let khz = all_khz ats (λ c. freq_of (case_of show) c (slice_index plan c)) roles
    (λ k d inside. ap (λ o. unwrap_or o 0) (planned_at show plan (get_or roles k d) (low k d inside)) ∙ channel_khz show fits.agree (get_or roles k d) _ (omega (arith, full, low k d inside))) in
    let margin = fits.agree.margin kind roles n (λ k d inside. omega (arith, full, low k d inside)) in
    ap (λ b. nat_lt (unsigned_abs (value_of kind (map (khz_in ats) roles))) (margin_of show kind roles) && (b && is_instance show kind roles)) there
    ∙ ap (λ fs. nat_lt (unsigned_abs (value_of kind fs)) (margin_of show kind roles) && is_instance show kind roles) khz
    ∙ sym (ap (λ m. nat_lt (unsigned_abs (value_of kind (map (λ c. freq_of (case_of show) c (slice_index plan c)) roles))) m && is_instance show kind roles) margin)

-- ---- both ways

only_broken : (broken instance : Bool) → instance ≡ true → (broken && instance) ≡ false → broken ≡ false
only_broken true instance i h = cc
only_broken false instance i h = refl

not_both : (broken instance : Bool) → (instance ≡ true → broken ≡ false) → (broken && instance) ≡ false
not_both true true h = h refl
not_both true false h = refl
not_both false instance h = refl

-- what an instance of a case says of its roles
record Roles (show : ShowData) (kind : Kind) (roles : List ℕ) : Type 0 where
  count : length roles ≡ roles_of kind
  known : All (λ c. c < length (case_of show).carriers) roles

roles_of_instance : (show : ShowData) (kind : Kind) (roles : List ℕ) → case.is_instance (case_of show) kind roles ≡ true → Roles show kind roles
roles_of_instance show kind roles h =
    let counted = length roles == roles_of kind in
    let low = list_all (λ c. nat_lt c (length (case_of show).carriers)) roles in
    let four = and_parts (counted && low && are_distinct roles && case.is_in_order kind roles) (are_together (case_of show) roles) h in
    let three = and_parts (counted && low && are_distinct roles) (case.is_in_order kind roles) four.0 in
    let two = and_parts (counted && low) (are_distinct roles) three.0 in
    let one = and_parts counted low two.0 in
    record {
      count = eqb-true _ _ one.0;
      known = λ k d inside. ltb-true _ _ (AllPass-from_list_all (λ c. nat_lt c (length (case_of show).carriers)) roles one.1 k d inside);
    }

to_case : (show : ShowData) (plan : List ℕ) → Agree show (case_of show) → IsPlan show plan → case.IsPlan (case_of show) plan
to_case show plan agree is =
    let full = is.full in
    let carriers = agree.carriers in
    let fits : Fits show plan = record { agree = agree; full = full; allowed = is.allowed } in
    record {
      full = full ∙ sym carriers;
      known = λ c low. omega (arith, is.known c low, ap length (agree.freqs c (omega (arith, full, low))));
      allowed = λ c low. agree.allowed c (slice_index plan c) (omega (arith, full, low)) ∙ is.allowed c low;
      kept = λ kind roles h.
          let of = roles_of_instance show kind roles h in
          let low : All (λ c. c < length show.carriers) roles = λ k d inside. omega (arith, carriers, of.known k d inside) in
          let in_plan : All (λ c. c < length plan) roles = λ k d inside. omega (arith, full, low k d inside) in
          let here : All (λ c. c < length (planned show plan)) roles = λ k d inside. omega (arith, length_planned show plan, in_plan k d inside) in
          only_broken (breaks (case_of show) kind roles (slice_index plan)) (is_instance show kind roles) (instance_same show agree kind roles of.count low ∙ h)
          (sym (broken_same show plan fits kind roles of.count in_plan) ∙ is.kept kind roles of.count here);
    }

from_case : (show : ShowData) (plan : List ℕ) → Agree show (case_of show) → case.IsPlan (case_of show) plan → IsPlan show plan
from_case show plan agree is =
    let carriers = agree.carriers in
    let full : length plan ≡ length show.carriers = is.full ∙ carriers in
    let allowed : (c : ℕ) → c < length plan → is_allowed show c (slice_index plan c) ≡ true =
    λ c low. sym (agree.allowed c (slice_index plan c) (omega (arith, full, low))) ∙ is.allowed c low in
    let fits : Fits show plan = record { agree = agree; full = full; allowed = allowed } in
    record {
      full = full;
      known = λ c low. omega (arith, is.known c low, ap length (agree.freqs c (omega (arith, full, low))));
      allowed = allowed;
      kept = λ kind roles n here.
          let in_plan : All (λ c. c < length plan) roles = λ k d inside. omega (arith, length_planned show plan, here k d inside) in
          let low : All (λ c. c < length show.carriers) roles = λ k d inside. omega (arith, full, in_plan k d inside) in
          broken_same show plan fits kind roles n in_plan
          ∙ not_both (breaks (case_of show) kind roles (slice_index plan)) (is_instance show kind roles) (λ i. is.kept kind roles (sym (instance_same show agree kind roles n low) ∙ i));
    }

pub plan_same : (show : ShowData) (plan : List ℕ) → Agree show (case_of show) → IsPlan show plan ↔ case.IsPlan (case_of show) plan
plan_same show plan agree = (to_case show plan agree, from_case show plan agree)
