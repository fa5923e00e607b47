use Rattle.std.proofs.Common.{◌≡◌, sym, ◌∙◌, ap, ◌&&◌}
use Rattle.std.specs.List.{list_all}
use Rattle.rf_show.specs.Query.{all_meet, meet_at}
use Rattle.rf_zones.specs.Masks.{has_bit}
use Rattle.rf_rules.proofs.CompanyLemmas.{bits-meet, mates-no, mates-yes}
use Rattle.rf_rules.proofs.company.Company.mates.Goals as goal
use Rattle.rf_rules.proofs.company.Company.mates.Goals.{After-has_all}

-- the mask of those that may be together with each has all of them where each two of them may be together
all : (c : After-has_all) → all_meet c.args.size c.args.self.now.show.now.zones c.args.self.now.show.now.carriers c.args.t.now ≡ c.has_all.result
all c =
    let show = c.args.self.now.show.now in
    sym
    (c.has_all.ensures ∙ bits-meet c.args.size c.meeters-meeters.result show.zones show.carriers c.args.t.now (c.meeting_is_mutual.ensures _ _) c.meeters-meeters.ensures c.requires.taken)

pub returns-then-not-has_all : goal.returns-then-not-has_all
returns-then-not-has_all c = λ k h.
    c.none.ensures k ∙ sym
    (mates-no c.args.self.now c.args.size c.args.t.now k (c.meeting_is_mutual.ensures _ _) h (all (goal.at.returns-then-not-has_all c).After-has_all ∙ c.if-not-has_all.true))

pub returns : goal.returns
returns c = λ k h.
    let show = c.args.self.now.show.now in
    c.both.ensures k ∙ ap (λ b. b && has_bit c.sharers.result k) (c.meeters-meeters.ensures k h)
    ∙ ap (λ b. list_all (λ a. meet_at c.args.size show.zones show.carriers a k) c.args.t.now && b) (c.sharers.ensures k)
    ∙ mates-yes c.args.self.now c.args.size c.args.t.now k c.requires.known (c.meeting_is_mutual.ensures _ _) h (all (goal.at.returns c).After-has_all ∙ c.if-not-has_all.false)
