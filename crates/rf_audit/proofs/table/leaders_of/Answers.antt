use Rattle.std.proofs.Common.{◌≡◌, ◌∙◌, ◌+◌, ◌<◌, ◌++◌, ◌∷◌, [], ℕ, List, length, ap, subst, length-append, slice_index}
use Rattle.rf_show.specs.Case.{case_of}
use Rattle.rf_audit.proofs.Starts.{led-more}
use Rattle.rf_audit.proofs.table.leaders_of.Goals as goal

pub loop-c-preserved : goal.loop-c-preserved
loop-c-preserved c =
    let g = c.leader_of.result in
    let more : c.push.new.self.items ≡ c.loop-c.leaders.items ++ g ∷ [] = c.in_ok-push.ensures.items in
    let itself = subst (λ (xs : List ℕ). g < c.loop-c.c → slice_index xs g ≡ g) c.as_slice.ensures.value c.leader_of.ensures.itself in
    record {
      full = ap length more ∙ length-append c.loop-c.leaders.items (g ∷ []) ∙ ap (λ (m : ℕ). m + 1) c.loop-c.invariant.full;
      led = rw more (led-more (case_of c.args.show.now) c.args.rows.now c.loop-c.leaders.items c.loop-c.c g c.loop-c.invariant.full c.loop-c-test.true
          c.requires.rows c.leader_of.ensures.low itself c.leader_of.ensures.alike c.loop-c.invariant.led);
    }
