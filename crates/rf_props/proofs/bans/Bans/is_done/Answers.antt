use Rattle.rf_props.proofs.BanLemmas.{allowed_less}
use Rattle.rf_props.proofs.RestLemmas.{less_by}
use Rattle.rf_props.proofs.bans.Bans.is_done.Goals as goal

pub returns : goal.returns
returns c = λ within.
    allowed_less (less_by c.args.trail.now c.domains.result.now c.in-Some.rest c.domains.ensures.has (c.is_within.ensures.0 within)) (c.requires.kept.allowed c.in-Some.rest c.in-Some.is)
