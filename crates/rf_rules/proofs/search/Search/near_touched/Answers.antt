use Rattle.std.proofs.Common.{◌≡◌, ◌+◌, ◌-◌, ◌++◌, ◌∷◌, [], length, ap, sym, ◌∙◌, arith, w64}
use Rattle.std.proofs.lemmas.Int.{to_z-of_z}
use Rattle.rf_terms.specs.Kinds.{roles_of}
use Rattle.rf_zones.specs.Masks.{has_bit}
use Rattle.rf_rules.specs.Tuples.{tuples, upto}
use Rattle.rf_rules.specs.Paired.{mask_near}
use Rattle.rf_rules.specs.Searches.{broken_in, partial_of}
use Rattle.rf_rules.specs.Touched.{touched_in}
use Rattle.rf_rules.proofs.PairLemmas.{quiet-second}
use Rattle.rf_rules.proofs.TouchLemmas.{all-touched, met-front, quiet-touched}
use Rattle.rf_rules.proofs.ReadyLemmas.{ready-bound}
use Rattle.rf_rules.proofs.search.Search.near_touched.Goals as goal

pub near-requires-clause-small : goal.near-requires-clause-small
near-requires-clause-small c = rw (to_z-of_z w64 c.args.product c.ranges.product, c.requires.product) (ready-bound c.args.self.now c.args.t.now c.requires.ready)

pub near-requires-2-clause-small : goal.near-requires-2-clause-small
near-requires-2-clause-small c = rw (to_z-of_z w64 c.args.product c.ranges.product, c.requires.product) (ready-bound c.args.self.now c.args.t.now c.requires.ready)

pub returns-then-meets : goal.returns-then-meets
returns-then-meets c =
    let s = c.args.self.now in
    let t = c.args.t.now in
    let p = c.args.touch.now.all in
    let mask : c.near.result ≡ mask_near p (partial_of s t) = c.near.ensures ∙ ap (mask_near p) (to_z-of_z w64 c.args.product c.ranges.product ∙ c.requires.product) in
    let n : length t + 2 ≡ roles_of s.kind = omega (arith, ap length c.requires.ready.coefficients, c.if-t-self.false, c.requires.open) in
    let left : roles_of s.kind - length t - 1 ≡ 1 = omega (arith, n) in
    λ k h out.
    let quiet : broken_in s (t ++ k ∷ []) (tuples 1 (upto (length s.ats.now))) ≡ [] = quiet-second s p t k c.requires.ready c.requires.touch.all n h (sym (ap (λ m. has_bit m k) mask) ∙ out) in
    let met = met-front c.args.touch.now.mask t (k ∷ []) (sym c.meets.ensures ∙ c.if-meets.true) in
    ap (λ j. touched_in s c.args.touch.now.mask (t ++ k ∷ []) (tuples j (upto (length s.ats.now)))) left ∙
    all-touched s c.args.touch.now.mask (t ++ k ∷ []) (tuples 1 (upto (length s.ats.now))) met ∙ quiet

pub returns : goal.returns
returns c =
    let s = c.args.self.now in
    let t = c.args.t.now in
    let p = c.args.touch.now.some in
    let mask : c.near-2.result ≡ mask_near p (partial_of s t) = c.near-2.ensures ∙ ap (mask_near p) (to_z-of_z w64 c.args.product c.ranges.product ∙ c.requires.product) in
    let n : length t + 2 ≡ roles_of s.kind = omega (arith, ap length c.requires.ready.coefficients, c.if-t-self.false, c.requires.open) in
    let left : roles_of s.kind - length t - 1 ≡ 1 = omega (arith, n) in
    λ k h out.
    ap (λ j. touched_in s c.args.touch.now.mask (t ++ k ∷ []) (tuples j (upto (length s.ats.now)))) left
    ∙ quiet-touched s p c.args.touch.now.mask t k c.requires.ready c.requires.touch.some n (sym c.meets.ensures ∙ c.if-meets.false) h (sym (ap (λ m. has_bit m k) mask) ∙ out)
