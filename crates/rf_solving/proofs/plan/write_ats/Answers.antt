use Rattle.std.proofs.Common.{◌≡◌, ◌<◌, ◌≤◌, ◌+◌, ◌++◌, ℕ, List, length, take, get_or, ap, sym, ◌∙◌, append_assoc}
use Rattle.rf_solving.specs.Solving.{at_line, at_lines}
use Rattle.rf_solving.proofs.LinesLaws.{lines_more, lines_whole}
use Rattle.rf_solving.proofs.plan.write_ats.Goals as goal

-- one line more
written : (first old new : List ℕ) (ns : List (List ℕ)) (fs : List ℕ) (i : ℕ) (n : List ℕ) (f : ℕ) (name : List ℕ) (khz : ℕ) → length ns ≡ length fs → i < length ns
    → name ≡ get_or ns i n → khz ≡ get_or fs i f → new ≡ old ++ at_line name khz → old ≡ first ++ at_lines (take i ns) (take i fs)
    → new ≡ first ++ at_lines (take (i + 1) ns) (take (i + 1) fs)
written first old new ns fs i n f name khz e low named tuned is was =
    is
    ∙ ap (λ text. text ++ at_line name khz) was
    ∙ ap (λ a. (first ++ at_lines (take i ns) (take i fs)) ++ at_line a khz) named
    ∙ ap (λ b. (first ++ at_lines (take i ns) (take i fs)) ++ at_line (get_or ns i n) b) tuned
    ∙ append_assoc first (at_lines (take i ns) (take i fs)) (at_line (get_or ns i n) (get_or fs i f))
    ∙ ap (λ text. first ++ text) (sym (lines_more ns fs i n f e low))

all_written : (first last : List ℕ) (ns : List (List ℕ)) (fs : List ℕ) (i : ℕ) → length ns ≡ length fs → length ns ≤ i
    → last ≡ first ++ at_lines (take i ns) (take i fs) → last ≡ first ++ at_lines ns fs
all_written first last ns fs i e high is = is ∙ ap (λ text. first ++ text) (lines_whole ns fs i e high)

pub loop-i-preserved : goal.loop-i-preserved
loop-i-preserved c =
    written _ _ _ c.args.names.now c.args.freqs.now c.loop-i.i _ _ c.index-names-i.result c.index-freqs-i.result c.requires c.loop-i-test.true
    c.index-names-i.is c.index-freqs-i.is c.in_ok-write_at.ensures c.loop-i.invariant

pub returns : goal.returns
returns c = all_written _ _ c.args.names.now c.args.freqs.now c.loop-i.i c.requires c.loop-i-test.false c.loop-i.invariant
