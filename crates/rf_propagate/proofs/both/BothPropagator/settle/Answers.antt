use Rattle.std.proofs.Common.{◌≡◌, ◌++◌, ◌||◌, refl, ◌∙◌, ap, Ok}
use Rattle.rf_propagate.specs.Laws.{same}
use Rattle.rf_propagate.proofs.BothLaws.{Kept, total, counted_same, counted_less, kept_on, grows_on, fewer_kept, quiet_kept, quiet_both, joined}
use Rattle.rf_propagate.proofs.both.BothPropagator.settle.Goals as goal

pub rounds-init : goal.rounds-init
rounds-init g c = (record { counts = refl; sound = same }, c.requires.fits.0, c.requires.fits.1, refl, refl, refl, refl, refl)

pub returns-in_err-carrier-clause-sound : goal.returns-in_err-carrier-clause-sound
returns-in_err-carrier-clause-sound g c = grows_on c.rounds.invariant.0.sound c.settle.ensures.sound

pub returns-in-Wiped-clause-sound : goal.returns-in-Wiped-clause-sound
returns-in-Wiped-clause-sound g c = grows_on c.rounds.invariant.0.sound c.settle.ensures.sound

pub returns-in_err-carrier-2-clause-sound : goal.returns-in_err-carrier-2-clause-sound
returns-in_err-carrier-2-clause-sound g c =
    grows_on (grows_on c.rounds.invariant.0.sound c.settle.ensures.sound) c.settle-in-rounds.ensures.sound

pub returns-in-Wiped-2-clause-sound : goal.returns-in-Wiped-2-clause-sound
returns-in-Wiped-2-clause-sound g c =
    grows_on (grows_on c.rounds.invariant.0.sound c.settle.ensures.sound) c.settle-in-rounds.ensures.sound

pub returns-then-left-before-clause-sound : goal.returns-then-left-before-clause-sound
returns-then-left-before-clause-sound g c =
    grows_on (grows_on c.rounds.invariant.0.sound c.settle.ensures.sound) c.settle-in-rounds.ensures.sound

pub returns-then-left-before-clause-quiet : goal.returns-then-left-before-clause-quiet
returns-then-left-before-clause-quiet g c = λ asked.
    let kept : Kept (g.T.Theory.case c.args.theory.now) (g.T.Theory.lines c.args.theory.now) c.settle.new.trail c.settle-in-rounds.new.trail
    = record { counts = c.settle-in-rounds.ensures.counts; sound = c.settle-in-rounds.ensures.sound } in
    let as_many : total c.settle-in-rounds.new.trail ≡ total c.settle.new.trail =
    counted_same c.settle-in-rounds.new.trail c.settle.new.trail _ _ c.left.ensures c.left-before.ensures c.if-left-before.true in
    let first = c.in_ok-carrier.ensures.quiet (ap (λ o. Ok o) c.in_default.is) in
    let second = c.in_ok-carrier-2.ensures.quiet (ap (λ o. Ok o) c.in_default-2.is) in
    quiet_both _ _ _ _ _ _ (quiet_kept _ _ kept as_many first) second

pub rounds-smaller : goal.rounds-smaller
rounds-smaller g c =
    let first : Kept (g.T.Theory.case c.args.theory.now) (g.T.Theory.lines c.args.theory.now) c.rounds.trail c.settle.new.trail
    = record { counts = c.settle.ensures.counts; sound = c.settle.ensures.sound } in
    let second : Kept (g.T.Theory.case c.args.theory.now) (g.T.Theory.lines c.args.theory.now) c.settle.new.trail c.settle-in-rounds.new.trail
    = record { counts = c.settle-in-rounds.ensures.counts; sound = c.settle-in-rounds.ensures.sound } in
    counted_less c.rounds.trail c.settle.new.trail c.settle-in-rounds.new.trail _ _ c.left.ensures c.left-before.ensures c.if-left-before.false (fewer_kept second) (fewer_kept first)

pub rounds-preserved : goal.rounds-preserved
rounds-preserved g c =
    let kept = c.rounds.invariant in
    let first = c.settle.ensures in
    let second = c.settle-in-rounds.ensures in (
      kept_on kept.0 (kept_on (record { counts = first.counts; sound = first.sound }) (record { counts = second.counts; sound = second.sound })),
      first.fits,
      second.fits,
      first.kinds ∙ kept.3,
      second.kinds ∙ kept.4,
      first.bans ∙ kept.5,
      second.bans ∙ kept.6,
      second.held ∙ kept.7,
    )

pub returns-in_err-carrier-clause-counts : goal.returns-in_err-carrier-clause-counts
returns-in_err-carrier-clause-counts g c = c.settle.ensures.counts ∙ c.rounds.invariant.0.counts

pub returns-in_err-carrier-clause-fits : goal.returns-in_err-carrier-clause-fits
returns-in_err-carrier-clause-fits g c = (c.settle.ensures.fits, c.rounds.invariant.2)

pub returns-in_err-carrier-clause-kinds : goal.returns-in_err-carrier-clause-kinds
returns-in_err-carrier-clause-kinds g c = joined ◌++◌ (c.settle.ensures.kinds ∙ c.rounds.invariant.3) c.rounds.invariant.4

pub returns-in_err-carrier-clause-bans : goal.returns-in_err-carrier-clause-bans
returns-in_err-carrier-clause-bans g c = joined ◌||◌ (c.settle.ensures.bans ∙ c.rounds.invariant.5) c.rounds.invariant.6

pub returns-in_err-carrier-clause-held : goal.returns-in_err-carrier-clause-held
returns-in_err-carrier-clause-held g c = c.rounds.invariant.7

pub returns-in-Wiped-clause-counts : goal.returns-in-Wiped-clause-counts
returns-in-Wiped-clause-counts g c = c.settle.ensures.counts ∙ c.rounds.invariant.0.counts

pub returns-in-Wiped-clause-fits : goal.returns-in-Wiped-clause-fits
returns-in-Wiped-clause-fits g c = (c.settle.ensures.fits, c.rounds.invariant.2)

pub returns-in-Wiped-clause-kinds : goal.returns-in-Wiped-clause-kinds
returns-in-Wiped-clause-kinds g c = joined ◌++◌ (c.settle.ensures.kinds ∙ c.rounds.invariant.3) c.rounds.invariant.4

pub returns-in-Wiped-clause-bans : goal.returns-in-Wiped-clause-bans
returns-in-Wiped-clause-bans g c = joined ◌||◌ (c.settle.ensures.bans ∙ c.rounds.invariant.5) c.rounds.invariant.6

pub returns-in-Wiped-clause-held : goal.returns-in-Wiped-clause-held
returns-in-Wiped-clause-held g c = c.rounds.invariant.7

pub returns-in-Wiped-clause-wiped : goal.returns-in-Wiped-clause-wiped
returns-in-Wiped-clause-wiped g c = λ carrier wiped. c.in_ok-carrier.ensures.wiped carrier (ap (λ o. Ok o) c.in-Wiped.is ∙ wiped)

pub returns-in_err-carrier-2-clause-counts : goal.returns-in_err-carrier-2-clause-counts
returns-in_err-carrier-2-clause-counts g c = c.settle-in-rounds.ensures.counts ∙ c.settle.ensures.counts ∙ c.rounds.invariant.0.counts

pub returns-in_err-carrier-2-clause-fits : goal.returns-in_err-carrier-2-clause-fits
returns-in_err-carrier-2-clause-fits g c = (c.settle.ensures.fits, c.settle-in-rounds.ensures.fits)

pub returns-in_err-carrier-2-clause-kinds : goal.returns-in_err-carrier-2-clause-kinds
returns-in_err-carrier-2-clause-kinds g c = joined ◌++◌ (c.settle.ensures.kinds ∙ c.rounds.invariant.3) (c.settle-in-rounds.ensures.kinds ∙ c.rounds.invariant.4)

pub returns-in_err-carrier-2-clause-bans : goal.returns-in_err-carrier-2-clause-bans
returns-in_err-carrier-2-clause-bans g c = joined ◌||◌ (c.settle.ensures.bans ∙ c.rounds.invariant.5) (c.settle-in-rounds.ensures.bans ∙ c.rounds.invariant.6)

pub returns-in_err-carrier-2-clause-held : goal.returns-in_err-carrier-2-clause-held
returns-in_err-carrier-2-clause-held g c = c.settle-in-rounds.ensures.held ∙ c.rounds.invariant.7

pub returns-in-Wiped-2-clause-counts : goal.returns-in-Wiped-2-clause-counts
returns-in-Wiped-2-clause-counts g c = c.settle-in-rounds.ensures.counts ∙ c.settle.ensures.counts ∙ c.rounds.invariant.0.counts

pub returns-in-Wiped-2-clause-fits : goal.returns-in-Wiped-2-clause-fits
returns-in-Wiped-2-clause-fits g c = (c.settle.ensures.fits, c.settle-in-rounds.ensures.fits)

pub returns-in-Wiped-2-clause-kinds : goal.returns-in-Wiped-2-clause-kinds
returns-in-Wiped-2-clause-kinds g c = joined ◌++◌ (c.settle.ensures.kinds ∙ c.rounds.invariant.3) (c.settle-in-rounds.ensures.kinds ∙ c.rounds.invariant.4)

pub returns-in-Wiped-2-clause-bans : goal.returns-in-Wiped-2-clause-bans
returns-in-Wiped-2-clause-bans g c = joined ◌||◌ (c.settle.ensures.bans ∙ c.rounds.invariant.5) (c.settle-in-rounds.ensures.bans ∙ c.rounds.invariant.6)

pub returns-in-Wiped-2-clause-held : goal.returns-in-Wiped-2-clause-held
returns-in-Wiped-2-clause-held g c = c.settle-in-rounds.ensures.held ∙ c.rounds.invariant.7

pub returns-in-Wiped-2-clause-wiped : goal.returns-in-Wiped-2-clause-wiped
returns-in-Wiped-2-clause-wiped g c = λ carrier wiped. c.in_ok-carrier-2.ensures.wiped carrier (ap (λ o. Ok o) c.in-Wiped-2.is ∙ wiped)

pub returns-then-left-before-clause-counts : goal.returns-then-left-before-clause-counts
returns-then-left-before-clause-counts g c = c.settle-in-rounds.ensures.counts ∙ c.settle.ensures.counts ∙ c.rounds.invariant.0.counts

pub returns-then-left-before-clause-fits : goal.returns-then-left-before-clause-fits
returns-then-left-before-clause-fits g c = (c.settle.ensures.fits, c.settle-in-rounds.ensures.fits)

pub returns-then-left-before-clause-kinds : goal.returns-then-left-before-clause-kinds
returns-then-left-before-clause-kinds g c = joined ◌++◌ (c.settle.ensures.kinds ∙ c.rounds.invariant.3) (c.settle-in-rounds.ensures.kinds ∙ c.rounds.invariant.4)

pub returns-then-left-before-clause-bans : goal.returns-then-left-before-clause-bans
returns-then-left-before-clause-bans g c = joined ◌||◌ (c.settle.ensures.bans ∙ c.rounds.invariant.5) (c.settle-in-rounds.ensures.bans ∙ c.rounds.invariant.6)

pub returns-then-left-before-clause-held : goal.returns-then-left-before-clause-held
returns-then-left-before-clause-held g c = c.settle-in-rounds.ensures.held ∙ c.rounds.invariant.7

pub returns-then-left-before-clause-blocked : goal.returns-then-left-before-clause-blocked
returns-then-left-before-clause-blocked g c = λ asked. c.in_ok-carrier-2.ensures.blocked (ap (λ o. Ok o) c.in_default-2.is)
