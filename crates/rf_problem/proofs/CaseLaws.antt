-- The parts of the case of a problem.
use Rattle.std.proofs.Common.{◌≡◌, ◌∙◌, ℕ, ◌<◌, List, length, get_or, sym, ap}
use Rattle.std.proofs.lemmas.List.{get_or-map, length-map, get_or_read}
use Rattle.rf_log.specs.Case as case
use Rattle.rf_log.specs.Case.{Carrier}
use Rattle.rf_problem.specs.Problem.{ProblemData, CarrierData, carrier_of, no_data, case_of}

pub count_is : (p : ProblemData) → length (case_of p).carriers ≡ length p.carriers
unfolding case_of
count_is p = length-map p.carriers carrier_of

pub carrier_is : (p : ProblemData) (c : ℕ) → c < length p.carriers → case.carrier_of (case_of p) c ≡ carrier_of (get_or p.carriers c no_data)
unfolding case_of
carrier_is p c known = get_or-map carrier_of p.carriers c no_data case.no_carrier known

-- a part of a carrier that the code read
pub member_is : {A : Type 0} (f : Carrier → A) (p : ProblemData) (items : List CarrierData) (c : ℕ) (read : CarrierData) → items ≡ p.carriers → c < length p.carriers
    → read ≡ get_or items c read → f (carrier_of read) ≡ f (case.carrier_of (case_of p) c)
member_is f p items c read is known got =
    let known' : c < length items = rw is known in
    let here : read ≡ get_or p.carriers c no_data = get_or_read items c read known' got no_data ∙ ap (λ xs. get_or xs c no_data) is in
    ap (λ d. f (carrier_of d)) here ∙ sym (ap f (carrier_is p c known))
