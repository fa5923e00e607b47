-- The text of what may be answered is a reply.
use Rattle.std.proofs.Common.{◌≡◌, ℕ, ◌+◌, ◌++◌, List, Option, Some, None, length, refl, ap, sym, subst, ◌∙◌, arith, inl, inr, codes, slice_index}
use Rattle.std.specs.List.{count_by}
use Rattle.std.proofs.lemmas.List.FromFn.{fill_by_all, get_or-map-range_with_len, length-map-range_with_len}
use Rattle.rf_log.specs.Case.{freq_of}
use Rattle.rf_log.specs.Solved.{spent}
use Rattle.rf_log.specs.Walk.{is_branch}
use Rattle.rf_log.specs.declared.line.LogLine.{LogLine}
use Rattle.rf_show.specs.Case.{CaseIsAsked, case_of}
use Rattle.rf_show.specs.Raised.{raised}
use Rattle.rf_show.specs.Show.{ShowData, carrier_names}
use Rattle.rf_solving.specs.Solving.{IsSolvedBy, at_lines, plan_freqs}
use Rattle.rf_decide.specs.Texts.{number_line}
use Rattle.rf_tighter.specs.Raised.{RaisingKeepsAllowed}
use Rattle.rf_margin.specs.Answers.{IsAbove, IsStuck, IsWidened}
use Rattle.rf_margin.specs.Brackets.{high_of, middle}
use Rattle.rf_margin.specs.Texts.{above_text, text_of}
use Rattle.rf_margin.specs.Widened.{IsTop, Widened, greatest, margin_text, most, no_plan, refuted_text, spent_at_once, spent_between, spent_text}
use Rattle.rf_margin.specs.declared.answer.Widest.{Widest}
use Rattle.rf_margin.specs.declared.answer.Widest.TheVariants.{Greatest, Most, Refuted, Spent}

-- a plan gives the carriers the same frequencies, however the show is raised
freqs_same : RaisingKeepsAllowed → CaseIsAsked → (show : ShowData) (extra : ℕ) (plan : List ℕ) → plan_freqs show plan ≡ plan_freqs (raised show extra) plan
freqs_same keeps agree show extra plan =
    fill_by_all (at (raised show extra)) (plan_freqs show plan) many 0 (length-map-range_with_len (at show) 0 many)
    (λ c low. get_or-map-range_with_len (at show) 0 many c c 0 low (omega arith)
    ∙ ap (λ fs. slice_index fs (slice_index plan c)) (sym ((keeps show extra).freqs c (omega (arith, low, (agree show).carriers)))))
  where
    many : ℕ
    many = length show.carriers

    at : ShowData → ℕ → ℕ
    at s c = freq_of (case_of s) c (slice_index plan c)

margin_same : RaisingKeepsAllowed → CaseIsAsked → (show : ShowData) (extra : ℕ) (plan : List ℕ) → margin_text show extra plan ≡ margin_text (raised show extra) extra plan
margin_same keeps agree show extra plan =
    ap (λ fs. number_line (codes "margin") extra ++ at_lines (carrier_names show.carriers) fs) (freqs_same keeps agree show extra plan)

-- a log that is spent has as many branch lines as the budget allows
spent_many : (show : ShowData) (n : ℕ) (log : List LogLine) → IsSolvedBy show n spent log → count_by is_branch log ≡ n
spent_many show n log is = is.solved.ends.all

top_of : (show : ShowData) (n : ℕ) (above : Option (ℕ × List LogLine)) → IsAbove show n above → IsTop show n (high_of above) (above_text show above)
top_of show n None is = inl (refl, refl)
top_of show n (Some above) is = inr (is.0, (above.1, is.1, refl))

stuck_reply : RaisingKeepsAllowed → CaseIsAsked → (show : ShowData) (n extra : ℕ) (log : List LogLine) (below : ℕ × List ℕ) (above : Option (ℕ × List LogLine)) (text : List ℕ)
    → text ≡ text_of show (Spent extra log (Some below) above) → IsStuck show n extra log below above → Widened show n text
stuck_reply keeps agree show n extra log below above text is stuck =
    let low = below.0 in
    let mid = middle low (high_of above) in
    spent_between low (high_of above) below.1 (above_text show above) log stuck.bracket stuck.room stuck.plan (top_of show n above stuck.top)
    (subst (λ e. IsSolvedBy (raised show e) n spent log) stuck.at stuck.used_up)
    (is
    ∙ ap (λ head. head ++ (above_text show above ++ spent_text show extra log (count_by is_branch log))) (margin_same keeps agree show low below.1)
    ∙ ap (λ k. margin_text (raised show low) low below.1 ++ (above_text show above ++ spent_text show extra log k)) (spent_many (raised show extra) n log stuck.used_up)
    ∙ ap (λ e. margin_text (raised show low) low below.1 ++ (above_text show above ++ spent_text show e log n)) stuck.at)

pub reply_of : RaisingKeepsAllowed → CaseIsAsked → (show : ShowData) (n : ℕ) (answer : Widest) (text : List ℕ) → text ≡ text_of show answer
    → IsWidened show n answer → Widened show n text
reply_of keeps agree show n (Greatest extra plan log) text is may =
    greatest extra plan log may.0 may.1 may.2 (is ∙ ap (λ head. head ++ refuted_text show (extra + 1) log) (margin_same keeps agree show extra plan))
reply_of keeps agree show n (Most plan) text is may = most plan may (is ∙ margin_same keeps agree show 1000 plan)
reply_of keeps agree show n (Refuted log) text is may = no_plan log may is
reply_of keeps agree show n (Spent extra log None None) text is may =
    spent_at_once log may.1
    (is
    ∙ ap (λ e. spent_text show e log (count_by is_branch log)) may.0
    ∙ ap (λ k. spent_text show 0 log k) (spent_many show n log may.1))
reply_of keeps agree show n (Spent extra log None (Some above)) text is may = absurd may
reply_of keeps agree show n (Spent extra log (Some below) above) text is may = stuck_reply keeps agree show n extra log below above text is may
