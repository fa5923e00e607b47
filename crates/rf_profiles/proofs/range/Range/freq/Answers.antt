use Rattle.std.proofs.Common.{Some, arith, sym, ◌∙◌, ap}
use Rattle.rf_profiles.proofs.RangeLemmas.{frequency_within, slice_get-frequencies, some_iff, is_some_iff, khz_at}
use Rattle.rf_profiles.proofs.range.Range.freq.Goals as goal

pub overflow_mul-k : goal.overflow_mul-k
overflow_mul-k c =
    omega (arith, frequency_within _ c.self.invariant c.args.k (rw c.self.view_is c.requires))

pub overflow_add-self-inside : goal.overflow_add-self-inside
overflow_add-self-inside c =
    omega (arith, frequency_within _ c.self.invariant c.args.k (rw c.self.view_is c.requires))

pub unwrap-requires : goal.unwrap-requires
unwrap-requires c =
    let khz = khz_at _ c.self.invariant c.args.k (rw c.self.view_is c.requires) in
    is_some_iff _ _ _ c.new.ensures.iff (rw c.from.ensures khz)

pub returns : goal.returns
returns c =
    let khz = khz_at _ c.self.invariant c.args.k (rw c.self.view_is c.requires) in
    let is = some_iff _ _ _ c.new.ensures.iff (rw c.from.ensures khz) in
    rw (← c.self.view_is) (slice_get-frequencies _ c.self.invariant c.args.k (rw c.self.view_is c.requires)
    ∙ ap Some (sym c.from.ensures) ∙ sym is ∙ c.unwrap.ensures)
