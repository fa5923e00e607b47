use Rattle.std.proofs.Common.{◌≡◌, ℕ, List, true, sym, ap, ◌∙◌, ◌-◌, ◌≤◌, drop, take, replicate, length, arith, length-drop}
use Rattle.std.specs.List.{list_all}
use Rattle.rf_zones.specs.Couplings.{is_apart}
use Rattle.rf_zones.specs.declared.coupling.Coupling.{Coupling}
use Rattle.rf_zones.specs.declared.coupling.Coupling.TheVariants.{Apart}
use Rattle.rf_zones.specs.declared.couplings.TheConstants.{MAX_PAIRS}
use Rattle.rf_zones.proofs.FilledLemmas.{shrunk_cells, all_apart}
use Rattle.rf_zones.proofs.couplings.Couplings.shrink.Goals as goal

pub invariant_of-self : goal.invariant_of-self
invariant_of-self c =
    let len : ℕ = c.self.inside.len in
    let n : ℕ = c.args.fewer in
    let xs : List Coupling = take len c.self.inside.couplings in
    let sized : length xs ≡ len = c.self.invariant.1 in
    let same : length xs ≡ length c.args.self.now = ap length c.self.view_is in
    let within : n ≤ len = omega arith in
    let last : list_all is_apart (drop (len - n) xs) ≡ true =
    ap (λ k. list_all is_apart (drop (k - n) xs)) (sym sized) ∙ ap (λ q. list_all is_apart (drop (length q - n) q)) c.self.view_is ∙ c.requires.apart in
    let count : length (drop (len - n) xs) ≡ n = omega (arith, length-drop (len - n) xs) in
    let apart : drop (len - n) xs ≡ replicate n Apart = all_apart (drop (len - n) xs) last ∙ ap (λ k. replicate k Apart) count in
    let cells = shrunk_cells MAX_PAIRS len n Apart c.self.inside.couplings c.self.invariant.0 sized c.self.invariant.2 within apart in
    let few : len - n ≤ MAX_PAIRS = omega (arith, c.self.invariant.2) in
    (cells.0, cells.1, few)
