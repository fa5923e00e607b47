use Rattle.std.proofs.Common.{◌≡◌, true, take, sym, ◌∙◌, ap, arith, take_all}
use Rattle.std.specs.List.{list_all}
use Rattle.rf_zones.specs.Times.{is_interval}
use Rattle.rf_zones.specs.Masks.{has_bits}
use Rattle.rf_zones.proofs.MinuteLemmas.{passes_start, starts_tell, starts_real}
use Rattle.rf_zones.proofs.slices.Slices.of.Goals as goal

pub returns-clause-common : goal.returns-clause-common
returns-clause-common c =
    let times = c.args.times.now in
    let all : take c.loop-time.time-index times ≡ times = take_all c.loop-time.time-index times (omega (arith, c.loop-time-test.false)) in
    let valid : list_all (list_all is_interval) times ≡ true = ap (list_all (list_all is_interval)) (sym all) ∙ c.loop-time.invariant.valid in
    λ set. c.loop-time.invariant.told (has_bits set) ∙ ap (passes_start times (has_bits set)) all ∙ starts_tell times set valid

pub returns-clause-real : goal.returns-clause-real
returns-clause-real c =
    let times = c.args.times.now in
    let all : take c.loop-time.time-index times ≡ times = take_all c.loop-time.time-index times (omega (arith, c.loop-time-test.false)) in
    let valid : list_all (list_all is_interval) times ≡ true = ap (list_all (list_all is_interval)) (sym all) ∙ c.loop-time.invariant.valid in
    starts_real times _ valid (λ test. c.loop-time.invariant.told test ∙ ap (passes_start times test) all)
