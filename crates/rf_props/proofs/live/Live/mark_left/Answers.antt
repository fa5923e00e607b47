use Rattle.std.proofs.Common.{length, ap, arith}
use Rattle.std.proofs.lemmas.List.{length-map}
use Rattle.rf_problem.specs.Problem.{case_of}
use Rattle.rf_problem.proofs.CaseLaws.{count_is}
use Rattle.rf_props.proofs.LiveLemmas.{AreFreqs, marks_more, known_at, ordered_run}
use Rattle.rf_props.proofs.live.Live.mark_left.Goals as goal
use Rattle.rf_props.proofs.live.Live.mark_left.Goals.{In-Some}
use Rattle.rf_log.proofs.CaseLaws.{counts_length}

pub next-requires : goal.next-requires
next-requires c =
    let sets = c.domains-domains.result.now in
    omega (
      arith,
      ap length c.domains-domains.ensures.sizes,
      length-map sets length,
      ap length c.requires.counts,
      counts_length (case_of c.args.problem.now),
      count_is c.args.problem.now,
      c.requires.carrier,
    )

are_freqs : (c : In-Some) → AreFreqs (case_of c.args.problem.now) c.freqs-freqs.result.now c.args.carrier
are_freqs c = record { is = c.freqs-freqs.ensures.value; rising = c.freqs-freqs.ensures.rising; small = c.freqs-freqs.ensures.below }

pub bounds-freqs-first : goal.bounds-freqs-first
bounds-freqs-first c =
    known_at (case_of c.args.problem.now) c.args.trail.now c.domains-domains.result.now c.freqs-freqs.result.now c.args.carrier c.in-Some.first c.requires.counts c.domains-domains.ensures.has
    (are_freqs ((goal.at.bounds-freqs-first c).In-Some)) c.in-Some.ensures.here

pub bounds-freqs-last : goal.bounds-freqs-last
bounds-freqs-last c =
    known_at (case_of c.args.problem.now) c.args.trail.now c.domains-domains.result.now c.freqs-freqs.result.now c.args.carrier c.run_end-last.result c.requires.counts c.domains-domains.ensures.has
    (are_freqs ((goal.at.bounds-freqs-last c).In-Some)) (c.run_end-last.ensures.run.all c.run_end-last.result c.run_end-last.ensures.run.ordered (omega arith))

pub mark-requires : goal.mark-requires
mark-requires c =
    ordered_run (case_of c.args.problem.now) c.args.trail.now c.domains-domains.result.now c.freqs-freqs.result.now c.args.carrier c.in-Some.first c.run_end-last.result c.requires.counts
    c.domains-domains.ensures.has (are_freqs ((goal.at.mark-requires c).In-Some)) c.run_end-last.ensures.run

pub loop-first-preserved : goal.loop-first-preserved
loop-first-preserved c =
    marks_more (case_of c.args.problem.now) c.args.trail.now c.domains-domains.result.now c.freqs-freqs.result.now c.args.self.now c.loop-first.self c.mark.new.self c.args.carrier c.loop-first.from
    c.in-Some.first c.run_end-last.result c.requires.counts c.domains-domains.ensures.has (are_freqs ((goal.at.loop-first-preserved c).In-Some)) c.in-Some.ensures c.run_end-last.ensures.run
    c.mark.ensures.marked c.mark.ensures.kept c.loop-first.invariant
