use Rattle.rf_problem.specs.Problem.{case_of}
use Rattle.rf_propagate.proofs.BothLaws.{grows_on}
use Rattle.rf_props.proofs.BanLemmas.{bans_start, bans_more}
use Rattle.rf_props.proofs.bans.strike_all_bans.Goals as goal

pub loop-carrier-init : goal.loop-carrier-init
loop-carrier-init c = bans_start (case_of c.args.problem.now) c.args.trail.now

pub returns-in_err-strike_bans-clause-sound : goal.returns-in_err-strike_bans-clause-sound
returns-in_err-strike_bans-clause-sound c = λ lines. grows_on (c.loop-carrier.invariant.on.sound lines) (c.strike_bans.ensures.sound lines)

pub loop-carrier-preserved : goal.loop-carrier-preserved
loop-carrier-preserved c =
    bans_more c.loop-carrier.invariant (record { counts = c.strike_bans.ensures.counts; sound = c.strike_bans.ensures.sound }) c.in_ok-strike_bans.ensures.allowed
