-- Raising keeps the number of ways.
use Rattle.std.proofs.Common.{◌≡◌, ℕ, zero, suc, ◌+◌, ◌*◌, ◌<◌, ◌≤◌, Bool, List, Option, Some, None, length, refl, ap, ◌∙◌, arith}
use Rattle.std.proofs.Math.Path.{fun_ext}
use Rattle.rf_domain.specs.Indices.{count_below}
use Rattle.rf_log.specs.Case.{Case, count_of, is_allowed}
use Rattle.rf_log.specs.declared.line.LogLine.{LogLine}
use Rattle.rf_search.specs.Laws.{BudgetIsEnough, ways_below}
use Rattle.rf_show.specs.Show.{ShowData}
use Rattle.rf_show.specs.Case.{case_of}
use Rattle.rf_show.specs.Raised.{raised}
use Rattle.rf_tighter.specs.Raised.{IsSameChoice, RaisingKeepsAllowed}
use Rattle.rf_margin.specs.Answers.{IsSpentAt}

ways-same : (a b : Case) → IsSameChoice a b → (n : ℕ) → n ≤ length b.carriers → ways_below a n ≡ ways_below b n
ways-same a b same zero low = refl
ways-same a b same (suc c) low =
    let in_case : c < length b.carriers = omega (arith, low) in
    ap (λ w. w * count_below (is_allowed a c) (count_of a c)) (ways-same a b same c (omega (arith, low)))
    ∙ ap (λ (f : ℕ → Bool). ways_below b c * count_below f (count_of a c)) (fun_ext (λ k. same.allowed c k in_case))
    ∙ ap (λ (fs : List ℕ). ways_below b c * count_below (is_allowed b c) (length fs)) (same.freqs c in_case)

pub not-spent : RaisingKeepsAllowed → BudgetIsEnough → (show : ShowData) (n extra : ℕ) (log : List LogLine) (below : Option (ℕ × List ℕ)) (above : Option (ℕ × List LogLine))
    → ways_below (case_of show) (length (case_of show).carriers) ≤ n + 1 → ¬ IsSpentAt show n extra log below above
not-spent keeps enough show n extra log None None few is = enough (case_of show) n log few is.1.solved
not-spent keeps enough show n extra log None (Some above) few is = is
not-spent keeps enough show n extra log (Some below) above few is =
    let same = keeps show extra in
    let ways = ways-same (case_of (raised show extra)) (case_of show) same (length (case_of show).carriers) (omega arith) in
    enough (case_of (raised show extra)) n log (omega (arith, few, ap (λ m. ways_below (case_of (raised show extra)) m) same.carriers, ways)) is.used_up.solved
