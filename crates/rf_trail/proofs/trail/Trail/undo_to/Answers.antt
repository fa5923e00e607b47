use Rattle.std.proofs.Common.{ℕ, List, ◌≡◌, ◌∙◌, ◌-◌, ◌<◌, ◌≤◌, length, take, drop, reverse, sym, ap, subst, arith}
use Rattle.std.proofs.lemmas.List.{length-reverse}
use Rattle.rf_domain.specs.Sets.{sizes}
use Rattle.rf_trail.specs.declared.entry.Entry.{Entry}
use Rattle.rf_trail.specs.declared.step.Step.{Step}
use Rattle.rf_trail.specs.Trace.{Trace}
use Rattle.rf_trail.specs.Pieces.{entries_of, StandsFor}
use Rattle.rf_trail.proofs.PieceLemmas.{before_step, stands_less, entries_first, as_many}
use Rattle.rf_trail.proofs.trail.Trail.undo_to.Goals.{After-index}
use Rattle.rf_trail.proofs.trail.Trail.undo_to.Goals as goal

-- the mark is that of a step
low : (c : After-index) → c.args.mark.entries < length c.self.inside.steps.items
low c = let apart = c.if-mark-len.false in
    omega (arith, c.requires, ap (λ t. length t.entries) c.self.view_is, as_many c.self.inside.steps.items, c.len.ensures, c.self.inside.steps.ok.0)

pub give_back-requires-clause-count : goal.give_back-requires-clause-count
give_back-requires-clause-count c =
    omega (
      arith,
      length-reverse c.self.inside.pieces.items,
      (before_step c.self.inside.domains c.self.inside.steps.items c.args.mark.entries c.index.result.now c.self.inside.pieces.items
          c.self.invariant (low ((goal.at.give_back-requires-clause-count c).After-index)) c.index.ensures).0,
    )

pub invariant_of-self : goal.invariant_of-self
invariant_of-self c =
    subst (λ (ss : List Step). StandsFor c.give_back.new.domains ss c.give_back.new.pieces.items) (sym c.truncate.ensures.items)
    (stands_less c.self.inside.domains c.give_back.new.domains c.self.inside.steps.items c.args.mark.entries c.index.result.now c.self.inside.pieces.items c.give_back.new.pieces.items
    c.self.invariant c.give_back.ensures.sizes (low ((goal.at.invariant_of-self c).After-index)) c.index.ensures c.give_back.ensures.pieces c.give_back.ensures.left)

pub returns : goal.returns
returns c =
    let steps = c.self.inside.steps.items in
    let n = c.args.mark.entries in
    let within : n ≤ length steps = let below = low ((goal.at.returns c).After-index) in omega arith in
    let entries : entries_of (reverse c.truncate.new.self.items) ≡ drop (length c.args.self.now.entries - n) c.args.self.now.entries =
    ap (λ ss. entries_of (reverse ss)) c.truncate.ensures.items ∙ entries_first steps n within ∙ ap (λ t. drop (length t.entries - n) t.entries) c.self.view_is in
    ap (λ ns. trace ns (entries_of (reverse c.truncate.new.self.items))) (c.give_back.ensures.sizes ∙ ap (λ t. t.counts) c.self.view_is)
    ∙ ap (trace c.args.self.now.counts) entries
  where
    trace : List ℕ → List Entry → Trace
    trace ns es = record { counts = ns; entries = es }
