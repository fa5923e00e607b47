use Rattle.std.proofs.Common.{rules, ◌≡◌, ◌≤◌, ℕ, List, sym, subst, ◌∙◌, ap, Option, Err, IfOk, length}
use Rattle.std.proofs.lemmas.List.{length-map}
use Rattle.std.specs.Io.KnownBytes.{Appends}
use Rattle.rf_base.specs.Cause.{Rose}
use Rattle.rf_base.specs.Piece.{AppendsPrefix}
use Rattle.rf_log.specs.Case.{Case}
use Rattle.rf_log.specs.declared.line.LogLine.{LogLine}
use Rattle.rf_search.specs.Answers.{ending_of}
use Rattle.rf_search.specs.declared.solving.SolveFault.TheVariants.{LogFault, Memory}
use Rattle.rf_show.specs.Case.{Agree, case_of}
use Rattle.rf_show.specs.Show.{ShowData, carrier_names}
use Rattle.rf_solving.specs.declared.log_writer.LogWriter.{LogWriter}
use Rattle.rf_solving.specs.LogWriter.{Wrote, WrotePart}
use Rattle.rf_solving.specs.Solving.{IsBegun, IsSolvedBy, log_text}
use Rattle.rf_solving.proofs.LogLemmas.{IsWriter, begun_by, broken_by, kept_by, solved_by}
use Rattle.rf_solving.proofs.solving.write_log.Goals as goal

-- the names are those of all carriers of the case
known : (show : ShowData) (case : Case) (names : List (List ℕ)) → Agree show (case_of show) → case ≡ case_of show
    → names ≡ carrier_names show.carriers → length names ≡ length case.carriers
known show case names agree same named =
    ap length named ∙ length-map show.carriers (λ c. c.name) ∙ sym agree.carriers ∙ sym (ap (λ (of : Case). length of.carriers) same)

pub solve-requires-clause-carriers : goal.solve-requires-clause-carriers
solve-requires-clause-carriers g c = known c.args.show.now _ _ (c.case_is_asked.ensures c.args.show.now) c.in-Ok.ensures c.requires.names

-- the writer of a log is one
abbrev writer : (O : Type 0) (contents : O → Option (List ℕ)) → IsWriter {S = LogWriter O}
    (λ old line new. (new.sink.ghost_name ≡ old.sink.ghost_name) × (new.names.now ≡ old.names.now) × Wrote old.names.now (contents old.sink.now) (contents new.sink.now) line)
    (λ old line new. (new.sink.ghost_name ≡ old.sink.ghost_name) × (new.names.now ≡ old.names.now) × WrotePart old.names.now (contents old.sink.now) (contents new.sink.now) line)
writer O contents = record {
  names = λ log. log.names.now;
  held = λ log. contents log.sink.now;
  reference = λ log. log.sink.ghost_name;
  keeps = λ old new line took. took.0;
  keeps_broken = λ old new line broke. broke.0;
  same = λ old new line took. took.1;
  wrote = λ old new line took. took.2;
  part = λ old new line broke. broke.2;
}

-- what holds of the sink that the writer had holds of the sink
of_sink : {O : Type 0} (P : O → Type 0) (given : O) (old new : ℕ) (now : O) → (old ≡ new → given ≡ now) → old ≡ new → P now → P given
of_sink P given old new now is same holds = subst P (sym (is same)) holds

pub returns-clause-solved : goal.returns-clause-solved
returns-clause-solved g c =
    let w = writer g.row.O.Denot (λ o. g.O.Sink.contents o) in
    of_sink
    (λ o. IfOk c.solve.result (λ answer. (log : List LogLine) × Appends (g.O.Sink.contents c.args.output.now) (g.O.Sink.contents o) (log_text c.args.show.now log) ×
    IsSolvedBy c.args.show.now c.args.budget (ending_of answer) log))
    _ _ _ _ (λ same. search (rules, same))
    (kept_by w c.solve.result _ c.solve.new.out c.args.budget _ c.solve.ensures.solved c.solve.ensures.failed c.solve.ensures.memory)
    (solved_by w c.solve.result _ c.solve.new.out c.args.show.now c.args.budget _ c.requires.names c.in-Ok.ensures c.solve.ensures.solved)

pub returns-clause-failed : goal.returns-clause-failed
returns-clause-failed g c =
    let w = writer g.row.O.Denot (λ o. g.O.Sink.contents o) in
    of_sink
    (λ o. c.solve.result ≡ Err LogFault → (log : List ℕ) × AppendsPrefix (g.O.Sink.contents c.args.output.now) (g.O.Sink.contents o) log × IsBegun c.args.show.now c.args.budget log)
    _ _ _ _ (λ same. search (rules, same))
    (kept_by w c.solve.result _ c.solve.new.out c.args.budget _ c.solve.ensures.solved c.solve.ensures.failed c.solve.ensures.memory)
    (λ is. broken_by w _ c.solve.new.out c.args.show.now c.args.budget _ c.requires.names c.in-Ok.ensures (c.solve.ensures.failed is))

pub returns-clause-memory : goal.returns-clause-memory
returns-clause-memory g c =
    let w = writer g.row.O.Denot (λ o. g.O.Sink.contents o) in
    of_sink
    (λ o. c.solve.result ≡ Err Memory → (log : List ℕ) × Appends (g.O.Sink.contents c.args.output.now) (g.O.Sink.contents o) log × IsBegun c.args.show.now c.args.budget log)
    _ _ _ _ (λ same. search (rules, same))
    (kept_by w c.solve.result _ c.solve.new.out c.args.budget _ c.solve.ensures.solved c.solve.ensures.failed c.solve.ensures.memory)
    (λ is. begun_by w _ c.solve.new.out c.args.show.now c.args.budget _ c.requires.names c.in-Ok.ensures (c.solve.ensures.memory is))

pub returns-clause-cause : goal.returns-clause-cause
returns-clause-cause g c =
    let w = writer g.row.O.Denot (λ o. g.O.Sink.contents o) in
    of_sink
    (λ o. c.solve.result ≡ Err LogFault → Rose (g.O.Sink.faults c.args.output.now) (g.O.Sink.faults o))
    _ _ _ _ (λ same. search (rules, same))
    (kept_by w c.solve.result _ c.solve.new.out c.args.budget _ c.solve.ensures.solved c.solve.ensures.failed c.solve.ensures.memory)
    c.solve.ensures.cause

pub returns-clause-later : goal.returns-clause-later
returns-clause-later g c =
    let w = writer g.row.O.Denot (λ o. g.O.Sink.contents o) in
    of_sink
    (λ o. g.O.Sink.faults c.args.output.now ≤ g.O.Sink.faults o)
    _ _ _ _ (λ same. search (rules, same))
    (kept_by w c.solve.result _ c.solve.new.out c.args.budget _ c.solve.ensures.solved c.solve.ensures.failed c.solve.ensures.memory)
    c.solve.ensures.later
