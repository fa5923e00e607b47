use Rattle.std.proofs.Common.{◌≡◌, ◌<◌, length, ◌∙◌, ap, arith}
use Rattle.rf_show.specs.After.{placed}
use Rattle.rf_show.proofs.PlaceLaws.{placed_to, taken_to, placed_step, taken_step, placed_all, taken_all, placed_back}
use Rattle.rf_show.proofs.frequencies.swap_frequencies.Goals as goal

pub loop-i-preserved : goal.loop-i-preserved
loop-i-preserved c =
    let kept = c.loop-i.invariant in
    let within : c.loop-i.i < length c.loop-i.carriers = omega arith in
    record {
      carriers = placed_step _ _ _ _ _ _ _ c.loop-i-test.true within c.requires kept.carriers kept.ats c.index-ats-i.is;
      ats = taken_step _ _ _ _ _ _ c.loop-i-test.true within c.requires kept.carriers kept.ats;
    }

pub returns-clause-carriers : goal.returns-clause-carriers
returns-clause-carriers c =
    let end : c.loop-i.i ≡ length c.args.carriers.now = omega arith in
    c.loop-i.invariant.carriers ∙ ap (λ i. placed_to i c.args.carriers.now c.args.ats.now) end ∙ placed_all _ _ c.requires

pub returns-clause-ats : goal.returns-clause-ats
returns-clause-ats c =
    let end : c.loop-i.i ≡ length c.args.carriers.now = omega arith in
    c.loop-i.invariant.ats ∙ ap (λ i. taken_to i c.args.carriers.now c.args.ats.now) end ∙ taken_all _ _ c.requires

pub returns-clause-back : goal.returns-clause-back
returns-clause-back c =
    ap (λ q. placed q c.loop-i.ats) (returns-clause-carriers c)
    ∙ ap (placed (placed c.args.carriers.now c.args.ats.now)) (returns-clause-ats c)
    ∙ placed_back c.args.carriers.now c.args.ats.now c.requires
