-- More locks leave no more ways.
use Rattle.std.proofs.Common.{◌≡◌, ℕ, zero, suc, ◌+◌, ◌*◌, ◌<◌, ◌≤◌, Bool, true, false, cond, List, Option, length, refl, ap, sym, subst, ◌∙◌, arith}
use Rattle.std.proofs.Math.Nat.{mul-le-mul_left, mul-le-mul_right}
use Rattle.rf_domain.specs.Indices.{count_below}
use Rattle.rf_log.specs.Case.{Case, count_of, is_allowed, is_among}
use Rattle.rf_log.specs.declared.line.LogLine.{LogLine}
use Rattle.rf_search.specs.Laws.{BudgetIsEnough, ways_below}
use Rattle.rf_show.specs.Case.{CaseIsAsked, case_of}
use Rattle.rf_show.specs.Show.{ShowData}
use Rattle.rf_tighter.specs.Locked.{MoreLocksAreTighter, kept}
use Rattle.rf_tighter.specs.Tighter.{IsTighter}
use Rattle.rf_core.specs.Blocking.{IsStuck}
use Rattle.rf_core.specs.Enough.{unlocked, ways_unlocked}
use Rattle.rf_tighter.proofs.LockedLaws.{length-locked}

one-less : (a b : Bool) → (a ≡ true → b ≡ true) → cond a 1 0 ≤ cond b 1 0
one-less true b h = subst (λ x. 1 ≤ cond x 1 0) (sym (h refl)) (omega arith)
one-less false b h = omega arith

count-less : (p q : ℕ → Bool) → ((k : ℕ) → p k ≡ true → q k ≡ true) → (n : ℕ) → count_below p n ≤ count_below q n
count-less p q h zero = omega arith
count-less p q h (suc n) = omega (arith, count-less p q h n, one-less (p n) (q n) (h n))

mul-more : (a b c d : ℕ) → a ≤ c → b ≤ d → a * b ≤ c * d
mul-more a b c d h k = omega (arith, mul-le-mul_left a k, mul-le-mul_right d h)

ways-less : (a b : Case) → IsTighter a b → (n : ℕ) → n ≤ length b.carriers → ways_below b n ≤ ways_below a n
ways-less a b some zero low = omega arith
ways-less a b some (suc c) low =
    let in_case : c < length b.carriers = omega (arith, low) in
    mul-more _ _ _ _ (ways-less a b some c (omega (arith, low)))
    (subst (λ (fs : List ℕ). count_below (is_allowed b c) (count_of b c) ≤ count_below (is_allowed a c) (length fs)) (sym (some.freqs c in_case))
    (count-less (is_allowed b c) (is_allowed a c) (λ k h. some.allowed c k in_case h) (count_of b c)))

none-is-part : (more : ℕ → Bool) (c : ℕ) → false ≡ true → more c ≡ true
none-is-part more c h = cc

pub not-spent : CaseIsAsked → MoreLocksAreTighter → BudgetIsEnough → (show : ShowData) (n : ℕ) (keep : List ℕ) (log : List LogLine) (dropped : Option (ℕ × List LogLine))
    → ways_unlocked show ≤ n + 1 → ¬ IsStuck show n keep log dropped
not-spent asked tighter enough show n keep log dropped few is =
    let some = tighter show (λ c. false) (is_among keep) (none-is-part (is_among keep)) in
    let free = case_of (unlocked show) in
    let held = case_of (kept show keep) in
    let size : length free.carriers ≡ length show.carriers = (asked (unlocked show)).carriers ∙ length-locked 0 (λ c. false) show.carriers in
    let ways = ways-less free held some (length held.carriers) (omega arith) in
    enough held n log (omega (arith, few, ways, ap (λ m. ways_below free m) (sym some.carriers ∙ size))) is.used_up.solved
