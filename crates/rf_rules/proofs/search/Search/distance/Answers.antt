use Rattle.std.proofs.Common.{◌≡◌, ◌++◌, ◌∷◌, [], ℤ, pos, ◌+ℤ◌, ◌*ℤ◌, get_or, length, ap, sym, ◌∙◌, arith, to_z, of_z, w64}
use Rattle.std.proofs.lemmas.Int.{to_z-of_z}
use Rattle.rf_terms.specs.Kinds.{coefficients_of}
use Rattle.rf_terms.specs.Forms.{value_of}
use Rattle.rf_rules.specs.Instances.{khz_in, khzs_in}
use Rattle.rf_rules.specs.Searches.{lane_of}
use Rattle.rf_rules.specs.declared.lane.Lane.{Lane}
use Rattle.rf_rules.proofs.FormLemmas.{distance-is, lane-term, partial-push}
use Rattle.rf_rules.proofs.ReadyLemmas.{ready-bound, ready-lane, ready-lanes, ready-term}
use Rattle.rf_rules.proofs.search.Search.distance.Goals as goal
use Rattle.rf_rules.proofs.search.Search.distance.Goals.{Start}
use Rattle.rf_terms.proofs.FormLaws.{told}

abbrev no-lane : Lane
no-lane = record { term = pos 0; needs = 0 }

-- the carrier's lane without conversions
lane : (c : Start) → to_z w64 (of_z w64 (get_or c.args.self.now.lanes.now c.args.carrier no-lane).term) ≡
    (lane_of c.args.self.now.show.now c.args.self.now.ats.now c.args.self.now.kind c.args.carrier).term
lane c =
    let s = c.args.self.now in
    let term = (lane_of s.show.now s.ats.now s.kind c.args.carrier).term in
    rw (ready-lane s c.args.carrier no-lane c.requires.ready c.requires.carrier) (told term (omega (arith, ready-term s c.args.carrier c.requires.ready)))

pub bounds-self-carrier : goal.bounds-self-carrier
bounds-self-carrier c = omega (arith, ready-lanes c.args.self.now c.requires.ready, c.requires.carrier)

pub sum-requires-clause-a : goal.sum-requires-clause-a
sum-requires-clause-a c =
    rw (to_z-of_z w64 c.args.product c.ranges.product, c.requires.product) (ready-bound c.args.self.now c.args.t.now c.requires.ready)

pub sum-requires-clause-b : goal.sum-requires-clause-b
sum-requires-clause-b c =
    rw (lane (goal.at.sum-requires-clause-b c).Start) (omega (arith, ready-term c.args.self.now c.args.carrier c.requires.ready))

pub returns : goal.returns
returns c =
    let s = c.args.self.now in
    let t = c.args.t.now in
    let term = get_or (coefficients_of s.kind) (length t) (pos 0) *ℤ pos (khz_in s.ats.now c.args.carrier) in
    let p : to_z w64 (of_z w64 c.args.product) ≡ value_of s.kind (khzs_in s.ats.now t) = to_z-of_z w64 c.args.product c.ranges.product ∙ c.requires.product in
    let q : to_z w64 (of_z w64 (get_or s.lanes.now c.args.carrier no-lane).term) ≡ term = lane (goal.at.returns c).Start ∙ lane-term s.show.now s.ats.now s.kind t c.args.carrier c.requires.depth in
    let sum : c.sum.result ≡ value_of s.kind (khzs_in s.ats.now (t ++ c.args.carrier ∷ [])) = c.sum.ensures ∙
    ap (λ (z : ℤ). z +ℤ to_z w64 (of_z w64 (get_or s.lanes.now c.args.carrier no-lane).term)) p ∙ ap (λ (z : ℤ). value_of s.kind (khzs_in s.ats.now t) +ℤ z) q ∙
    sym (partial-push s.kind s.ats.now t c.args.carrier) in
    c.unsigned_abs.ensures.value ∙ distance-is s.kind s.ats.now (t ++ c.args.carrier ∷ []) _ (to_z-of_z w64 c.sum.result (record { sfits = c.sum.type_inv }) ∙ sum)
