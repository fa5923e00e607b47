use Rattle.std.proofs.Common.{◌≡◌, ◌+◌, ◌/◌, ◌-ℤ◌, pos, unsigned_abs, ap, to_z, of_z, w64}
use Rattle.std.proofs.lemmas.Int.{to_z-of_z}
use Rattle.rf_rules.proofs.PairLemmas.{Marks, covers-kept, covers-made}
use Rattle.rf_rules.proofs.pairings.Pairings.add.Goals as goal
use Rattle.rf_rules.proofs.pairings.Pairings.add.Goals.{After-mark-3}

first : (c : After-mark-3) → Marks c.args.self.now c.mark.new.self (c.place_of_opposite.result / c.args.self.now.width) c.args.carrier
first c = record { width = c.mark.ensures.width; room = c.mark.ensures.room; marked = c.mark.ensures.marked; kept = c.mark.ensures.kept }

second : (c : After-mark-3) → Marks c.mark.new.self c.mark-2.new.self (c.place_of_opposite.result / c.args.self.now.width + 1) c.args.carrier
second c = record { width = c.mark-2.ensures.width; room = c.mark-2.ensures.room; marked = c.mark-2.ensures.marked; kept = c.mark-2.ensures.kept }

third : (c : After-mark-3) → Marks c.mark-2.new.self c.mark-3.new.self (c.place_of_opposite.result / c.args.self.now.width + 2) c.args.carrier
third c = record { width = c.mark-3.ensures.width; room = c.mark-3.ensures.room; marked = c.mark-3.ensures.marked; kept = c.mark-3.ensures.kept }

pub returns-clause-covers : goal.returns-clause-covers
returns-clause-covers c =
    let m = (goal.at.returns-clause-covers c).After-mark-3 in
    let a = c.args.self.now in
    let value : to_z w64 (of_z w64 c.args.value) ≡ c.args.value = to_z-of_z w64 c.args.value c.ranges.value in
    let e : c.place_of_opposite.result ≡ unsigned_abs (pos 640000000 -ℤ c.args.value) = rw value at c.place_of_opposite.ensures in
    covers-made a c.mark.new.self c.mark-2.new.self c.mark-3.new.self c.args.carrier (c.place_of_opposite.result / a.width) c.args.value c.requires.form.wide c.requires.small
    (ap (λ k. k / a.width) e) (first m) (second m) (third m)

pub returns-clause-keeps : goal.returns-clause-keeps
returns-clause-keeps c =
    let m = (goal.at.returns-clause-keeps c).After-mark-3 in
    let a = c.args.self.now in
    let z = c.place_of_opposite.result / a.width in
    λ other value h.
    covers-kept c.mark-2.new.self c.mark-3.new.self (z + 2) c.args.carrier other value (third m)
    (covers-kept c.mark.new.self c.mark-2.new.self (z + 1) c.args.carrier other value (second m)
    (covers-kept a c.mark.new.self z c.args.carrier other value (first m) h))
