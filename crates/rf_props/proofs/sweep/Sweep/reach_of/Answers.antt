use Rattle.std.proofs.Common.{arith}
use Rattle.rf_problem.specs.Problem.{case_of}
use Rattle.rf_props.proofs.SweepLemmas.{reach_of_all, reach_of_victim}
use Rattle.rf_props.proofs.sweep.Sweep.reach_of.Goals as goal

pub returns-then-self-others : goal.returns-then-self-others
returns-then-self-others c =
    let s = c.args.self.now in
    reach_of_all (case_of s.problem.now) s.kind s.place s.reach c.args.others.now c.requires.reach

pub returns-in-Spacing : goal.returns-in-Spacing
returns-in-Spacing c =
    let s = c.args.self.now in
    reach_of_all (case_of s.problem.now) s.kind s.place s.reach c.args.others.now c.requires.reach

pub returns-in_default : goal.returns-in_default
returns-in_default c =
    let s = c.args.self.now in
    reach_of_victim (case_of s.problem.now) s.kind s.place c.asked.result c.args.others.now c.in_default.not-Spacing c.requires.others (omega arith) c.asked.ensures
