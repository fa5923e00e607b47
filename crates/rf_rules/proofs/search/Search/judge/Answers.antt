use Rattle.std.proofs.Common.{◌≡◌, ◌∷◌, ◌++◌, [], ap, sym, ◌∙◌, arith, to_z, of_z, w64}
use Rattle.std.proofs.lemmas.Int.{to_z-of_z}
use Rattle.rf_rules.specs.Instances.{is_broken}
use Rattle.rf_rules.specs.Conflicts.{conflict_of, product_of, sources_of}
use Rattle.rf_rules.proofs.TallyLemmas.{none-more}
use Rattle.rf_rules.proofs.TupleLaws.{found-one, found-at_none}
use Rattle.rf_rules.proofs.SearchLemmas.{broken-near, conflict-is, sources-push}
use Rattle.rf_rules.proofs.ProductLemmas.{ordered-few}
use Rattle.rf_rules.proofs.search.Search.judge.Goals as goal
use Rattle.rf_rules.proofs.search.Search.judge.Goals.{After-joins}

pub joins-requires-clause-roles : goal.joins-requires-clause-roles
joins-requires-clause-roles c = omega (arith, c.requires.roles, ordered-few c.args.self.now.kind)

near : (c : After-joins) → is_broken c.args.self.now.show.now c.args.self.now.ats.now c.args.self.now.kind (c.args.t.now ++ c.args.last ∷ []) ≡ c.joins.result
near c =
    let s = c.args.self.now in
    broken-near s.show.now s.ats.now s.kind (c.args.t.now ++ c.args.last ∷ []) (omega (arith, c.requires.distance, c.requires.needs, c.requires.near)) ∙ sym c.joins.ensures

pub returns-then-not-joins : goal.returns-then-not-joins
returns-then-not-joins c =
    let no = near (goal.at.returns-then-not-joins c).After-joins ∙ c.if-not-joins.true in
    rw (found-at_none _ _ (c.args.t.now ++ c.args.last ∷ []) no) (none-more c.args.tally.now)

pub returns-then-is_full : goal.returns-then-is_full
returns-then-is_full c =
    let s = c.args.self.now in
    let yes = near (goal.at.returns-then-is_full c).After-joins ∙ c.if-not-joins.false in
    rw (found-one (conflict_of s.show.now s.ats.now s.kind) _ (c.args.t.now ++ c.args.last ∷ []) yes)
    (c.count.ensures (conflict_of s.show.now s.ats.now s.kind (c.args.t.now ++ c.args.last ∷ [])))

pub returns : goal.returns
returns c =
    let s = c.args.self.now in
    let yes = near (goal.at.returns c).After-joins ∙ c.if-not-joins.false in
    let front : c.args.t.now ≡ sources_of (c.args.t.now ++ c.args.last ∷ []) = sources-push c.args.t.now c.args.last in
    let product : to_z w64 (of_z w64 c.args.product) ≡ product_of s.ats.now s.kind (sources_of (c.args.t.now ++ c.args.last ∷ [])) = to_z-of_z w64 c.args.product c.ranges.product ∙
    c.requires.product ∙ ap (product_of s.ats.now s.kind) front in
    let same = c.conflict.ensures ∙ conflict-is s.show.now s.ats.now s.kind (c.args.t.now ++ c.args.last ∷ []) _ c.args.distance c.args.needs product c.requires.distance c.requires.needs in
    rw (found-one (conflict_of s.show.now s.ats.now s.kind) _ (c.args.t.now ++ c.args.last ∷ []) yes, ← same) c.add.ensures
