use Rattle.std.proofs.Common.{◌≡◌, ◌<◌, ℕ, true, length, ap, arith, ◌||◌}
use Rattle.std.proofs.lemmas.Result.{IfOk-weaker}
use Rattle.rf_zones.specs.Masks.{has_bit}
use Rattle.rf_rules.specs.declared.pairings.Pairings.{Pairings}
use Rattle.rf_rules.specs.declared.search.Search.{Search}
use Rattle.rf_rules.specs.Paired.{HasPairs}
use Rattle.rf_rules.specs.Touched.{HasTouching}
use Rattle.rf_rules.proofs.pairings.Pairings.of.Goals as goal

-- pairs with one of all carriers are all pairs
every : (p : Pairings) (s : Search) (mask : ℕ) → ((c : ℕ) → c < length s.ats.now → has_bit mask c ≡ true) → HasTouching p s mask → HasPairs p s
every p s mask h t = record { form = t.form; wide = t.wide; pairs = λ c d i j. t.pairs c d i j (ap (λ b. b || has_bit mask d) (h c i)) }

pub returns : goal.returns
returns c =
    let s = c.args.search.now in
    IfOk-weaker c.touching.result _ _
    (λ p. every p s c.all.result (λ k h. c.all.ensures k (omega (arith, h, c.requires.few))))
    c.touching.ensures
