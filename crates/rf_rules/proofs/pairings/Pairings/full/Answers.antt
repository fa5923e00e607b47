use Rattle.std.proofs.Common.{◌≡◌, ◌<◌, ◌%◌, ℕ, true, replicate, length, get_or, ap, ◌∙◌, arith}
use Rattle.std.proofs.lemmas.List.{get_or-replicate}
use Rattle.rf_zones.specs.Masks.{has_bit}
use Rattle.rf_rules.proofs.ReadyLemmas.{ready-wide}
use Rattle.rf_rules.proofs.pairings.Pairings.full.Goals as goal

pub returns : goal.returns
returns c =
    let s = c.args.search.now in
    let cells = c.in_ok-vec.field-0.items in
    let one : cells ≡ replicate 1 c.all.result = c.in_ok-vec.ensures.items_if_clones_equal (λ y same. same) in
    let each : (i k : ℕ) → k < length s.ats.now → has_bit (get_or cells (i % length cells) 0) k ≡ true = λ i k h.
    let first : i % length cells < 1 = omega (arith, c.in_ok-vec.ensures.len) in
    ap (λ zs. has_bit (get_or zs (i % length cells) 0) k) one ∙ ap (λ m. has_bit m k) (get_or-replicate 1 (i % length cells) c.all.result 0 first) ∙
    c.all.ensures k (omega (arith, h, c.requires.few)) in
    record {
      form = record { wide = omega (arith, c.from.ensures, c.widest.ensures.some); some = omega (arith, c.in_ok-vec.ensures.len) };
      wide = ready-wide s c.widest.result _ c.requires.ready c.widest.ensures.wide (omega (arith, c.from.ensures));
      pairs = λ k d h _ _ _ product _ _. each _ k h;
    }
