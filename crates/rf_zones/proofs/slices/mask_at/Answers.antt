use Rattle.std.proofs.Common.{◌≡◌, [], sym, ◌∙◌, ap, arith, get_or, ◌||◌, ◌==◌}
use Rattle.std.proofs.lemmas.List.{get_or_read}
use Rattle.rf_zones.specs.Masks.{has_bit}
use Rattle.rf_zones.specs.Slices.{on_at}
use Rattle.rf_zones.specs.Times.{is_on}
use Rattle.rf_zones.proofs.BitLaws.{mask_of_all, on_there}
use Rattle.rf_zones.proofs.MaskLaws.{passed_no, passed_none, passed_yes}
use Rattle.rf_zones.proofs.slices.mask_at.Goals as goal
use Rattle.rf_zones.proofs.slices.mask_at.Goals.{then-on, else-on}

pub loop-k-init : goal.loop-k-init
loop-k-init c = λ k. c.none-on.ensures k ∙ sym (passed_none (on_at c.args.times.now c.args.minute) k)

pub loop-k-preserved : goal.loop-k-preserved
loop-k-preserved c =
    let times = c.args.times.now in
    let k = c.loop-k.k in
    let minute = c.args.minute in
    let time = get_or_read times k c.index-times-k.result c.loop-k-test.true c.index-times-k.is [] in
    let seen : c.on.result ≡ is_on (get_or times k []) minute = c.on.ensures ∙ ap (λ t. is_on t minute) time in
    let there : on_at times minute k ≡ c.on.result = on_there times minute k c.loop-k-test.true ∙ sym seen in
    elim c.if-on.branch [
      | then-on w ↦ λ m.
          ap (λ mask. has_bit mask m) w.on-is ∙ w.with-on.ensures m ∙ ap (λ b. b || (m == k)) (c.loop-k.invariant m)
          ∙ passed_yes (on_at times minute) k m (there ∙ w.if-on.true)
      | else-on w ↦ λ m.
          ap (λ mask. has_bit mask m) w.on-is ∙ c.loop-k.invariant m ∙ passed_no (on_at times minute) k m (there ∙ w.if-on.false)
    ]

pub returns : goal.returns
returns c = mask_of_all c.args.times.now c.args.minute _ c.loop-k.k (omega (arith, c.loop-k-test.false)) c.loop-k.invariant
