-- The text of a log is that of its lines.
use Rattle.std.proofs.Common.{◌≡◌, ◌+◌, ◌++◌, ◌∷◌, [], ℕ, List, All, ap, sym, subst, ◌∙◌, refl, length, take, append-nil, arith, Result, Ok, Err, length-append}
use Rattle.std.specs.Result.{IfOk}
use Rattle.std.specs.List.{flat_map}
use Rattle.std.specs.Io.KnownBytes.{Appends}
use Rattle.std.specs.declared.option.Option.{Option}
use Rattle.std.proofs.lemmas.List.Concat.{flat_map-append}
use Rattle.std.proofs.lemmas.List.Elements.{All-nil, All-push}
use Rattle.rf_base.proofs.ByteLaws.{Appends-then, Appends-nil}
use Rattle.rf_base.specs.Piece.{AppendsPrefix}
use Rattle.rf_log.specs.Case.{Case}
use Rattle.rf_log.specs.LineTexts.{line_text_of}
use Rattle.rf_log.specs.Solved.{IsStarted, IsSolved}
use Rattle.rf_log.specs.declared.line.LogLine.{LogLine}
use Rattle.rf_search.specs.declared.answer.Answer.{Answer}
use Rattle.rf_search.specs.declared.solving.SolveFault.{SolveFault}
use Rattle.rf_search.specs.declared.solving.SolveFault.TheVariants.{LogFault, Memory}
use Rattle.rf_search.specs.Answers.{ending_of}
use Rattle.rf_search.specs.Out.{Leads, LeadsToFailed, none, and_then}
use Rattle.rf_show.specs.Case.{case_of}
use Rattle.rf_show.specs.Show.{ShowData, carrier_names}
use Rattle.rf_solving.specs.LogWriter.{Wrote, WrotePart}
use Rattle.rf_solving.specs.Solving.{IsBegun, IsSolvedBy, IsWritten, log_text}
use Rattle.rf_base.proofs.ListLaws.{take_past}
use Rattle.rf_show.proofs.KeptLaws.{names_many}

-- the text of lines over these names
abbrev pub lines_text : List (List ℕ) → List LogLine → List ℕ
lines_text names log = flat_map (line_text_of names) log

pub text_push : (names : List (List ℕ)) (log : List LogLine) (line : LogLine) → lines_text names (log ++ line ∷ []) ≡ lines_text names log ++ line_text_of names line
text_push names log line =
    flat_map-append (line_text_of names) log (line ∷ []) ∙ ap (λ text. lines_text names log ++ text) (append-nil (line_text_of names line))

-- lines were written one after another
pub record AreWritten (names : List (List ℕ)) (old new : Option (List ℕ)) (log : List LogLine) : Type 0 where
  pub written : All (IsWritten (length names)) log
  pub wrote : Appends old new (lines_text names log)

-- what is the same before and after each line is so before and after all
pub leads_same : {S G : Type 0} {taken : S → LogLine → S → Type 0} (f : S → G) → ((old new : S) (line : LogLine) → taken old line new → f new ≡ f old)
    → {first last : S} {log : List LogLine} → Leads taken first log last → f last ≡ f first
leads_same f same none = refl
leads_same f same (and_then {mid = mid} {last = last} {line = line} before took) = same mid last line took ∙ leads_same f same before

-- lines that are each written to what the state holds
pub leads_written : {S : Type 0} {taken : S → LogLine → S → Type 0} (names : S → List (List ℕ)) (held : S → Option (List ℕ))
    → ((old new : S) (line : LogLine) → taken old line new → names new ≡ names old)
    → ((old new : S) (line : LogLine) → taken old line new → Wrote (names old) (held old) (held new) line)
    → {first last : S} {log : List LogLine} → Leads taken first log last → AreWritten (names first) (held first) (held last) log
leads_written names held same wrote (none {state = s}) = record { written = All-nil (IsWritten (length (names s))); wrote = Appends-nil (held s) }
leads_written names held same wrote (and_then {first = first} {mid = mid} {last = last} {lines = log} {line = line} before took) =
    let so_far = leads_written names held same wrote before in
    let one : Wrote (names first) (held mid) (held last) line = subst (λ ns. Wrote ns (held mid) (held last) line) (leads_same names same before) (wrote mid last line took) in record {
      written = All-push (IsWritten (length (names first))) log line so_far.written one.written;
      wrote = Appends-then (held first) (held mid) (held last) (lines_text (names first) log) (line_text_of (names first) line) _ so_far.wrote one.wrote (text_push (names first) log line);
    }

-- a state that writes lines: its names, what its sink holds, and what a line makes of it
pub record IsWriter {S : Type 0} (taken failed : S → LogLine → S → Type 0) : Type 0 where
  pub names : S → List (List ℕ)
  pub held : S → Option (List ℕ)
  pub reference : S → ℕ
  pub keeps : (old new : S) (line : LogLine) → taken old line new → reference new ≡ reference old
  pub keeps_broken : (old new : S) (line : LogLine) → failed old line new → reference new ≡ reference old
  pub same : (old new : S) (line : LogLine) → taken old line new → names new ≡ names old
  pub wrote : (old new : S) (line : LogLine) → taken old line new → Wrote (names old) (held old) (held new) line
  pub part : (old new : S) (line : LogLine) → failed old line new → WrotePart (names old) (held old) (held new) line

pub written_by : {S : Type 0} {taken failed : S → LogLine → S → Type 0} (w : IsWriter taken failed) {first last : S} {log : List LogLine} →
    Leads taken first log last → AreWritten (w.names first) (w.held first) (w.held last) log
written_by w leads = leads_written w.names w.held w.same w.wrote leads

-- the last line was written in part
pub written_in_part : {S : Type 0} {taken failed : S → LogLine → S → Type 0} (w : IsWriter taken failed) {first last : S} {log : List LogLine} →
    LeadsToFailed taken failed first log last → AppendsPrefix (w.held first) (w.held last) (lines_text (w.names first) log)
written_in_part w {first} {last} {log} way =
    let names = w.names first in
    let front = lines_text names way.before in
    let so_far = written_by w way.leads in
    let one : WrotePart names (w.held way.mid) (w.held last) way.line =
    subst (λ ns. WrotePart ns (w.held way.mid) (w.held last) way.line) (leads_same w.names w.same way.leads) (w.part way.mid last way.line way.fails) in
    let text : lines_text names log ≡ front ++ line_text_of names way.line = ap (lines_text names) way.are ∙ text_push names way.before way.line in
    let long : length (front ++ line_text_of names way.line) ≡ length front + length (line_text_of names way.line) = length-append front (line_text_of names way.line) in
    subst (λ (piece : List ℕ). AppendsPrefix (w.held first) (w.held last) piece) (sym text)
    record {
      count = length front + one.count;
      within = omega (arith, one.within, long);
      grew = Appends-then (w.held first) (w.held way.mid) (w.held last) front (take one.count (line_text_of names way.line)) _ so_far.wrote one.grew
          (sym (take_past front (line_text_of names way.line) one.count));
    }

-- the writer still has the sink that it began with
pub kept_by : {S : Type 0} {taken failed : S → LogLine → S → Type 0} (w : IsWriter taken failed) (r : Result Answer SolveFault) (first last : S)
    (n : ℕ) (case : Case) → IfOk r (λ answer. (log : List LogLine) × Leads taken first log last × IsSolved case n log (ending_of answer)) →
    (r ≡ Err LogFault → (log : List LogLine) × LeadsToFailed taken failed first log last × IsStarted case n log) →
    (r ≡ Err Memory → (log : List LogLine) × Leads taken first log last × IsStarted case n log) →
    w.reference first ≡ w.reference last
kept_by w (Ok answer) first last n case solved broken begun = sym (leads_same w.reference w.keeps solved.1)
kept_by w (Err LogFault) first last n case solved broken begun =
    let way = (broken refl).1 in sym (w.keeps_broken way.mid last way.line way.fails ∙ leads_same w.reference w.keeps way.leads)
kept_by w (Err Memory) first last n case solved broken begun = sym (leads_same w.reference w.keeps (begun refl).1)

-- what a solver has written over the carriers of a show
pub solved_by : {S E : Type 0} {taken failed : S → LogLine → S → Type 0} (w : IsWriter taken failed) (r : Result Answer E) (first last : S)
    (show : ShowData) (n : ℕ) (case : Case) → w.names first ≡ carrier_names show.carriers → case ≡ case_of show →
    IfOk r (λ answer. (log : List LogLine) × Leads taken first log last × IsSolved case n log (ending_of answer)) →
    IfOk r (λ answer. (log : List LogLine) × Appends (w.held first) (w.held last) (log_text show log) × IsSolvedBy show n (ending_of answer) log)
solved_by w (Ok answer) first last show n case named same (log, leads, solved) =
    let written : AreWritten (carrier_names show.carriers) (w.held first) (w.held last) log = subst (λ ns. AreWritten ns (w.held first) (w.held last) log) named (written_by w leads) in (
      log,
      written.wrote,
      record {
        solved = subst (λ (c : Case). IsSolved c n log (ending_of answer)) same solved;
        written = subst (λ (k : ℕ). All (IsWritten k) log) (names_many show) written.written;
      },
    )
solved_by w (Err e) first last show n case named same solved = tt

pub begun_by : {S : Type 0} {taken failed : S → LogLine → S → Type 0} (w : IsWriter taken failed) (first last : S)
    (show : ShowData) (n : ℕ) (case : Case) → w.names first ≡ carrier_names show.carriers → case ≡ case_of show →
    (log : List LogLine) × Leads taken first log last × IsStarted case n log →
    (text : List ℕ) × Appends (w.held first) (w.held last) text × IsBegun show n text
begun_by w first last show n case named same (log, leads, started) = (
  log_text show log,
  subst (λ ns. Appends (w.held first) (w.held last) (lines_text ns log)) named (written_by w leads).wrote,
  record { log = log; started = subst (λ (c : Case). IsStarted c n log) same started; is = refl },
)

pub broken_by : {S : Type 0} {taken failed : S → LogLine → S → Type 0} (w : IsWriter taken failed) (first last : S)
    (show : ShowData) (n : ℕ) (case : Case) → w.names first ≡ carrier_names show.carriers → case ≡ case_of show →
    (log : List LogLine) × LeadsToFailed taken failed first log last × IsStarted case n log →
    (text : List ℕ) × AppendsPrefix (w.held first) (w.held last) text × IsBegun show n text
broken_by w first last show n case named same (log, way, started) = (
  log_text show log,
  subst (λ ns. AppendsPrefix (w.held first) (w.held last) (lines_text ns log)) named (written_in_part w way),
  record { log = log; started = subst (λ (c : Case). IsStarted c n log) same started; is = refl },
)
