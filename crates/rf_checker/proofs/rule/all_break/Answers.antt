use Rattle.std.proofs.Common.{◌≡◌, ◌∙◌, ◌≤◌, ℕ, true, subst, arith, inl, inr, length, take, length-set, slice_set}
use Rattle.std.proofs.lemmas.Bool.{cases_lt}
use Rattle.std.proofs.lemmas.List.Elements.{All-set}
use Rattle.rf_log.specs.Case.{freq_of, is_broken, margin_of}
use Rattle.rf_show.specs.Case.{case_of}
use Rattle.rf_checker.proofs.RuleLemmas.{agree_more, breaks_here}
use Rattle.rf_checker.proofs.rule.all_break.Goals as goal

pub loop-k-preserved : goal.loop-k-preserved
loop-k-preserved c =
    let here = breaks_here c.args.kind c.loop-k.freqs c.args.freqs c.args.place (length c.args.roles.now) c.freq.result _ c.margin-margin.result _ true c.is_broken.result
    c.loop-k.invariant.same c.requires.place c.freq.ensures.value c.margin-margin.ensures c.is_broken.ensures c.if-not-is_broken.false in
    record {
      each = λ j from to. elim (cases_lt j c.loop-k.k) [
        | inl below ↦ c.loop-k.invariant.each j from below
        | inr above ↦
            let is : c.loop-k.k ≡ j = omega arith in
            let test : ℕ → Type 0 = λ i.
            is_broken c.args.kind (slice_set (take (length c.args.roles.now) c.args.freqs) c.args.place (freq_of (case_of c.args.show.now) c.args.target i))
            (margin_of (case_of c.args.show.now) c.args.kind c.args.roles.now) ≡ true in
            subst test is here
      ];
      same = agree_more c.loop-k.freqs c.args.freqs c.args.place c.freq.result c.loop-k.invariant.same;
      four = length-set c.loop-k.freqs c.args.place c.freq.result ∙ c.loop-k.invariant.four;
      small = All-set (λ f. f ≤ 10000000) c.loop-k.freqs c.args.place c.freq.result c.freq.ensures.small c.loop-k.invariant.small;
    }
