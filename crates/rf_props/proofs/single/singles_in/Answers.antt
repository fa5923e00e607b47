use Rattle.std.proofs.Common.{◌≡◌, ℕ, List, length, take, ap, ◌∙◌, subst, arith}
use Rattle.std.proofs.Math.Seq.{take-length}
use Rattle.rf_problem.specs.Problem.{case_of}
use Rattle.rf_domain.specs.Sets.{has}
use Rattle.rf_props.specs.Sweeps.{AreSingle}
use Rattle.rf_props.proofs.SingleLemmas.{singles_more, singles_none}
use Rattle.rf_props.proofs.single.singles_in.Goals as goal

pub loop-i-preserved : goal.loop-i-preserved
loop-i-preserved c =
    singles_more (case_of c.args.problem.now) (has c.args.sets.now) c.args.carriers.now c.loop-i.i c.in-Some.freq c.loop-i.freqs c.loop-i.invariant c.loop-i-test.true
    (omega arith) c.in-Some.ensures

pub returns-in-None : goal.returns-in-None
returns-in-None c =
    singles_none (case_of c.args.problem.now) (has c.args.sets.now) c.args.carriers.now c.loop-i.i c.loop-i-test.true c.in-None.ensures

pub returns : goal.returns
returns c =
    let case = case_of c.args.problem.now in
    let left = has c.args.sets.now in
    let all : c.loop-i.i ≡ length c.args.carriers.now = omega arith in
    let whole : take c.loop-i.i c.args.carriers.now ≡ c.args.carriers.now = ap (λ n. take n c.args.carriers.now) all ∙ take-length c.args.carriers.now in
    subst (λ (n : ℕ). AreSingle case left c.args.carriers.now (take n c.loop-i.freqs)) all
    (subst (λ (xs : List ℕ). AreSingle case left xs (take c.loop-i.i c.loop-i.freqs)) whole c.loop-i.invariant.single)
