use Rattle.std.proofs.Common.{◌∙◌, ◌/◌, ◌%◌, ◌<◌, sym, ap, arith, length, ◌==◌}
use Rattle.std.specs.Int.{bit_at}
use Rattle.std.proofs.lemmas.List.{get_or_read}
use Rattle.std.proofs.lemmas.Nat.Bits.{shr_and_one}
use Rattle.rf_domain.specs.Indices.{flag}
use Rattle.rf_domain.proofs.Bits.{clear_past, flag-flags_of}
use Rattle.rf_domain.proofs.set.IndexSet.has.Goals as goal

pub returns-then-k-self : goal.returns-then-k-self
returns-then-k-self c =
    let words = c.self.inside.words.items in
    sym (clear_past c.self.inside.size words c.self.invariant.padded c.args.k c.if-k-self.true)
    ∙ sym (flag-flags_of c.self.inside.size words c.self.invariant.padded c.args.k)
    ∙ ap (λ set. flag set c.args.k) c.self.view_is

pub index-requires : goal.index-requires
index-requires c =
    omega (arith, c.self.invariant.padded.room, c.self.inside.words.ok.0)

pub returns : goal.returns
returns c =
    let words = c.self.inside.words.items in
    let k = c.args.k in
    let within : k / 64 < length words =
    omega (arith, c.self.invariant.padded.room, c.self.inside.words.ok.0) in
    ap (λ x. x == 1) (shr_and_one c.index.result.now (k % 64))
    ∙ ap (λ x. bit_at x (k % 64) == 1) (get_or_read words (k / 64) c.index.result.now within c.index.ensures 0)
    ∙ sym (flag-flags_of c.self.inside.size words c.self.invariant.padded k)
    ∙ ap (λ set. flag set k) c.self.view_is
