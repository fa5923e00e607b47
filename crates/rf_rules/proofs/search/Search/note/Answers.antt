use Rattle.std.proofs.Common.{◌≡◌, ◌∷◌, ◌++◌, [], ◌+◌, take, set, ap, sym, ◌∙◌, arith, to_z, of_z, w64}
use Rattle.std.proofs.lemmas.Int.{to_z-of_z}
use Rattle.rf_rules.proofs.ReadyLemmas.{taken-many, taken-next}
use Rattle.rf_rules.specs.Conflicts.{product_of}
use Rattle.rf_rules.specs.Products.{is_between}
use Rattle.rf_rules.proofs.ProductLemmas.{note-none, note-one, noted-both, noted-no_candidate, noted-outside, ordered-sources, product-is}
use Rattle.rf_rules.proofs.search.Search.note.Goals as goal
use Rattle.rf_rules.proofs.search.Search.note.Goals.{After-is_between}

pub joins-requires-clause-roles : goal.joins-requires-clause-roles
joins-requires-clause-roles c =
    let n = taken-many c.args.self.now.kind c.args.roles c.args.depth (omega arith) (omega (arith, c.requires.depth)) in
    omega (arith, n, ordered-sources c.args.self.now.kind c.requires.victim, c.requires.depth)

value : (c : After-is_between) → to_z w64 (of_z w64 c.with-value.result) ≡ product_of c.args.self.now.ats.now c.args.self.now.kind (take c.args.depth c.args.roles ++ c.args.last ∷ [])
value c = to_z-of_z w64 c.with-value.result (record { sfits = c.with-value.type_inv }) ∙ c.with-value.ensures

between : (c : After-is_between) → is_between c.args.lo c.args.hi (product_of c.args.self.now.ats.now c.args.self.now.kind (take c.args.depth c.args.roles ++ c.args.last ∷ [])) ≡ c.is_between.result
between c = ap (is_between c.args.lo c.args.hi) (sym (value c)) ∙ sym c.is_between.ensures

pub returns-then-not-joins : goal.returns-then-not-joins
returns-then-not-joins c =
    let s = c.args.self.now in
    note-none s c.args.lo c.args.hi (take c.args.depth c.args.roles ++ c.args.last ∷ []) c.args.found.now.items
    (noted-no_candidate s.show.now s.ats.now s.kind c.args.lo c.args.hi (take c.args.depth c.args.roles ++ c.args.last ∷ []) (sym c.joins.ensures ∙ c.if-not-joins.true))

pub returns-then-not-is_between : goal.returns-then-not-is_between
returns-then-not-is_between c =
    let s = c.args.self.now in
    note-none s c.args.lo c.args.hi (take c.args.depth c.args.roles ++ c.args.last ∷ []) c.args.found.now.items
    (noted-outside s.show.now s.ats.now s.kind c.args.lo c.args.hi (take c.args.depth c.args.roles ++ c.args.last ∷ [])
    (between (goal.at.returns-then-not-is_between c).After-is_between ∙ c.if-not-is_between.true))

pub returns : goal.returns
returns c =
    let s = c.args.self.now in
    let t = take c.args.depth c.args.roles ++ c.args.last ∷ [] in
    let b = (goal.at.returns c).After-is_between in
    let whole : take (c.args.depth + 1) (set c.args.roles c.args.depth c.args.last) ≡ t =
    taken-next s.kind c.args.roles c.args.depth c.args.last (omega arith) (omega (arith, c.requires.depth)) in
    let yes = noted-both s.show.now s.ats.now s.kind c.args.lo c.args.hi t (between b ∙ c.if-not-is_between.false) (sym c.joins.ensures ∙ c.if-not-joins.false) in
    c.in_ok-push.ensures.items ∙ note-one s c.args.lo c.args.hi t c.args.found.now.items _ yes (product-is s.ats.now s.kind t c.padded.result _ (value b) (rw whole at c.padded.ensures))
