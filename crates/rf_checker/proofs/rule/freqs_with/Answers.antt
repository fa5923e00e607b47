use Rattle.std.proofs.Common.{◌≡◌, ◌∙◌, ℕ, ◌+◌, ◌<◌, ◌≤◌, ◌++◌, List, [], ◌∷◌, length, map, take, set, get_or, sym, ap, arith}
use Rattle.std.proofs.Math.ListN.{length-set}
use Rattle.std.proofs.lemmas.List.{take_more, take_more_set, map-append}
use Rattle.std.proofs.lemmas.List.Elements.{All-set}
use Rattle.rf_log.specs.Case.{freq_of}
use Rattle.rf_log.specs.Hints.{indices_with}
use Rattle.rf_show.specs.Case.{case_of}
use Rattle.rf_checker.specs.Boxes.{box_in}
use Rattle.rf_checker.proofs.rule.freqs_with.Goals as goal

-- one role more with its frequency
freqs_more : (at : ℕ → ℕ) (roles freqs : List ℕ) (i f : ℕ) → take i freqs ≡ map at (take i roles) → i < length roles → i < length freqs → f ≡ at (get_or roles i 0)
    → take (i + 1) (set freqs i f) ≡ map at (take (i + 1) roles)
freqs_more at roles freqs i f so known room is =
    take_more_set freqs i f room ∙ ap (λ xs. xs ++ f ∷ []) so ∙ ap (λ x. map at (take i roles) ++ x ∷ []) is
    ∙ sym (map-append at (take i roles) (get_or roles i 0 ∷ [])) ∙ sym (ap (map at) (take_more roles i 0 known))

pub loop-i-preserved : goal.loop-i-preserved
loop-i-preserved c =
    let case = case_of c.args.show.now in
    let index = indices_with case (box_in c.args.sets.now) c.args.target 0 in
    let role = get_or c.args.roles.now c.loop-i.i 0 in record {
      value = freqs_more (λ x. freq_of case x (index x)) c.args.roles.now c.loop-i.freqs c.loop-i.i c.freq.result c.loop-i.invariant.value c.loop-i-test.true
          (omega (arith, c.loop-i.invariant.four)) (c.freq.ensures.value ∙ ap (freq_of case role) c.index_with.ensures);
      four = length-set c.loop-i.freqs c.loop-i.i c.freq.result ∙ c.loop-i.invariant.four;
      small = All-set (λ x. x ≤ 10000000) c.loop-i.freqs c.loop-i.i c.freq.result c.freq.ensures.small c.loop-i.invariant.small;
    }
