use Rattle.std.proofs.Common.{◌∙◌, arith}
use Rattle.rf_problem.specs.Problem.{case_of}
use Rattle.rf_propagate.proofs.BothLaws.{grows_on}
use Rattle.rf_props.proofs.BanLemmas.{runs_start, runs_more, runs_all}
use Rattle.rf_props.proofs.bans.strike_bans.Goals as goal

pub loop-from-init : goal.loop-from-init
loop-from-init c = runs_start (case_of c.args.problem.now) c.args.carrier c.args.trail.now

pub returns-in_err-from-clause-sound : goal.returns-in_err-from-clause-sound
returns-in_err-from-clause-sound c = λ lines. grows_on (c.loop-from.invariant.on.sound lines) (c.strike_run.ensures.sound lines)

pub loop-from-preserved : goal.loop-from-preserved
loop-from-preserved c =
    runs_more c.loop-from.invariant (record { counts = c.strike_run.ensures.counts; sound = c.strike_run.ensures.sound }) c.in_ok-from.ensures.run

pub returns-clause-allowed : goal.returns-clause-allowed
returns-clause-allowed c =
    runs_all (case_of c.args.problem.now) c.args.carrier c.args.trail.now c.loop-from.trail c.loop-from.from c.loop-from.invariant (c.loop-from.invariant.on.counts ∙ c.requires.counts)
    (omega (arith, c.count.ensures.value))
