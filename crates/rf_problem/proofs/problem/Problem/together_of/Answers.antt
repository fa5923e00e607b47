use Rattle.std.proofs.Common.{◌≡◌, ◌∙◌, ◌&&◌, length, sym, ap, true, false}
use Rattle.std.proofs.lemmas.Bool.{and_left}
use Rattle.rf_problem.specs.Problem.{share_slice, all_meet}
use Rattle.rf_problem.proofs.TogetherLemmas.{joined_is_together}
use Rattle.rf_problem.proofs.problem.Problem.together_of.Goals as goal

pub returns-then-share_slice : goal.returns-then-share_slice
returns-then-share_slice c =
    let p = c.args.self.now in
    let set = c.args.set.now in
    let shared : share_slice p.slices set ≡ true = ap (λ s. share_slice s set) (sym (c.as_slice.ensures ∙ ap (λ v. v.slices) c.self.view_is)) ∙ sym c.share_slice.ensures ∙ c.if-share_slice.true in
    let meeting : c.all_meet.result ≡ all_meet (length set) p.carriers set =
    c.all_meet.ensures ∙ ap (λ s. all_meet (length set) s set) (c.as_slice-then-share_slice.ensures.value ∙ ap (λ v. v.carriers) c.self.view_is) in
    meeting ∙ sym (ap (λ b. b && all_meet (length set) p.carriers set) shared)
    ∙ joined_is_together c.sets_are_tested.ensures p set c.requires.in_range c.requires.distinct c.requires.two c.requires.four

pub returns-else-share_slice : goal.returns-else-share_slice
returns-else-share_slice c =
    let p = c.args.self.now in
    let set = c.args.set.now in
    let none : share_slice p.slices set ≡ false = ap (λ s. share_slice s set) (sym (c.as_slice.ensures ∙ ap (λ v. v.slices) c.self.view_is)) ∙ sym c.share_slice.ensures ∙ c.if-share_slice.false in
    c.if-share_slice.false ∙ sym (and_left (share_slice p.slices set) (all_meet (length set) p.carriers set) none)
    ∙ joined_is_together c.sets_are_tested.ensures p set c.requires.in_range c.requires.distinct c.requires.two c.requires.four
