-- A check to which the shelf fails asked for the file that failed.
use Rattle.std.proofs.Common.{◌≡◌, ◌≤◌, ◌+◌, ◌-◌, ◌^◌, ◌⊎◌, ◌∙◌, min, ℕ, Bool, true, false, List, [], ◌∷◌, ◌++◌, Option, Some, None, Result, Ok, Err, count_by, refl, sym, ap, ap₂, inl, inr}
use Rattle.std.proofs.Common.{arith, if◌then◌else◌}
use Rattle.std.specs.List.{list_any}
use Rattle.std.specs.Str.{bytes_eq}
use Rattle.std.proofs.lemmas.List.Folds.{list_any-append}
use Rattle.std.proofs.lemmas.Slice.Eq.{bytes_eq-Decides}
use Rattle.rf_base.specs.Cause.{Rose}
use Rattle.rf_base.specs.Script.{Line, short, long}
use Rattle.rf_exclusions.specs.declared.scan_set.Sep.{Sep}
use Rattle.rf_base.specs.declared.decimal.Decimal.{Decimal}
use Rattle.rf_profiles.specs.declared.fault.ProfilesFault.{ProfilesFault}
use Rattle.rf_profiles.specs.declared.fault.ProfilesFault.TheVariants as profiles
use Rattle.rf_profiles.specs.declared.profile.Profile.{Profile}
use Rattle.rf_profiles.specs.File.{profiles_of}
use Rattle.rf_log.specs.LogText.{LogData, log_of}
use Rattle.rf_scan.specs.declared.fault.ScanFault.{ScanFault}
use Rattle.rf_scan.specs.declared.fault.ScanFault.TheVariants as scan
use Rattle.rf_scan.specs.declared.point.Point.{Point}
use Rattle.rf_scan.specs.Scan.{scan_of}
use Rattle.rf_show.specs.After.{after}
use Rattle.rf_show.specs.Show.{ShowData}
use Rattle.rf_show.specs.declared.edit.Edit.TheVariants as edit
use Rattle.rf_show.specs.declared.refusal.Refusal.{Refusal}
use Rattle.rf_text.specs.Commands.{command_of}
use Rattle.rf_text.specs.declared.command.Command.{Command}
use Rattle.rf_text.specs.declared.command.Command.TheVariants as command
use Rattle.rf_text.specs.declared.command.UnknownLine.{UnknownLine}
use Rattle.rf_session.specs.declared.check.CheckFault.TheVariants.{Shelf as NotFetched}
use Rattle.rf_session.specs.declared.show_file.LineFault.TheVariants.{Shelf}
use Rattle.rf_session.specs.declared.show_file.ShowFault.{ShowFault}
use Rattle.rf_session.specs.declared.show_file.ShowFault.TheVariants as show
use Rattle.rf_session.specs.Checked.{Finds, FindsAfter, FindsFrom, FindsInLog, Found, FindsOf, Judging, NotFound}
use Rattle.rf_session.specs.Fetches.{Fetched, of_file, Got, found, too_large, fault, Outside, asks_for, fails_at, fetch_of}
use Rattle.rf_session.specs.Files.{hot_or, profiles_or}
use Rattle.rf_session.specs.Run.{is_passed}
use Rattle.rf_session.specs.ShowFile.{command_read, made, made_by, said_read, ReadsLine, ReadsShow}
use Rattle.rf_session.specs.Shows.{file_of, profiles_edit, said_file, scan_edit}
use Rattle.rf_session.proofs.FetchLaws.{count_by-append}
use mathlib.Core.Bool.{or-true}

made_fetched : (r : Result ShowData Refusal) → made r ≡ Err Shelf → ⊥
made_fetched (Ok s) is = cc
made_fetched (Err refusal) is = cc

profiles_fetched : (s : ShowData) (r : Result (List Profile) ProfilesFault) → made_by s (profiles_edit (profiles_or r)) ≡ Err Shelf → ⊥
profiles_fetched s (Ok list) is = made_fetched (after s (edit.AddProfiles list)) is
profiles_fetched s (Err profiles.Toml) is = cc
profiles_fetched s (Err (profiles.BadProfile number field)) is = cc
profiles_fetched s (Err profiles.Memory) is = cc

scan_fetched : (s : ShowData) (file zone : List ℕ) (threshold : Decimal) (width : ℕ) (sep : Sep) (r : Result (List Point) ScanFault) →
    made_by s (scan_edit file zone threshold width sep (hot_or threshold r)) ≡ Err Shelf → ⊥
scan_fetched s file zone threshold width sep (Ok points) is = made_fetched _ is
scan_fetched s file zone threshold width sep (Err scan.NoPoints) is = cc
scan_fetched s file zone threshold width sep (Err (scan.BadRecord number field)) is = cc
scan_fetched s file zone threshold width sep (Err scan.Many) is = cc
scan_fetched s file zone threshold width sep (Err scan.Memory) is = cc

-- the shelf failed at this file
abbrev FailsAt : Option (List ℕ) → Got → Type 0
FailsAt file got = (name : List ℕ) × (file ≡ Some name) × (got ≡ fault)

command_fails : (s : ShowData) (c : Command) (got : Got) → command_read s c got ≡ Err Shelf → FailsAt (file_of c) got
command_fails s (command.Change e) got is = absurd (made_fetched (after s e) is)
command_fails s (command.Profiles file) (found bytes) is = absurd (profiles_fetched s (profiles_of bytes) is)
command_fails s (command.Profiles file) too_large is = cc
command_fails s (command.Profiles file) fault is = (file, refl, refl)
command_fails s (command.Scan file zone threshold width sep) (found bytes) is = absurd (scan_fetched s file zone threshold width sep (scan_of sep bytes) is)
command_fails s (command.Scan file zone threshold width sep) too_large is = cc
command_fails s (command.Scan file zone threshold width sep) fault is = (file, refl, refl)
command_fails s _ got is = cc

said_fails : (s : ShowData) (said : Result Command UnknownLine) (got : Got) → said_read s said got ≡ Err Shelf → FailsAt (said_file said) got
said_fails s (Ok c) got is = command_fails s c got is
said_fails s (Err unknown) got is = cc

passed_fails : (passed : Bool) (s : ShowData) (said : Result Command UnknownLine) (got : Got) → (if passed then Ok s else said_read s said got) ≡ Err Shelf →
    FailsAt (if passed then None else said_file said) got
passed_fails true s said got is = cc
passed_fails false s said got is = said_fails s said got is

-- a line at which the shelf failed
line_fails : (s : ShowData) (line : Line) (fetched : Fetched) → ReadsLine s line fetched (Err Shelf) → (name : List ℕ) × (fetched ≡ of_file name fault)
line_fails s (short bytes) fetched (got, brought, says) =
    let (name, file, is) = passed_fails (is_passed (short bytes)) s (command_of bytes) got (sym says) in
    (name, brought ∙ ap₂ fetch_of file is)
line_fails s long fetched (got, brought, says) = cc

-- The last of these fetches was a fault.
record FailsLast (fetches : List Fetched) : Type 0 where
  pub earlier : List Fetched
  pub name : List ℕ
  pub whole : fetches ≡ earlier ++ of_file name fault ∷ []

log_fetched : (judge : Judging) (s : ShowData) (r : Result LogData ℕ) → FindsOf judge s r (Err NotFetched) → ⊥
log_fetched judge s (Ok log) (finding, finds, is) = cc
log_fetched judge s (Err line) is = cc

log_fails : (judge : Judging) (s : ShowData) (log : List ℕ) (last : List Fetched) → FindsInLog judge s log last (Err NotFetched) → FailsLast last
log_fails judge s log last (found bytes, asked, is) = absurd (log_fetched judge s (log_of bytes) is)
log_fails judge s log last (too_large, asked, is) = cc
log_fails judge s log last (fault, asked, is) = record { earlier = []; name = log; whole = asked }

lines_fail : (judge : Judging) (lines : List Line) (fetches : List Fetched) (read : Result ShowData ShowFault) (log : List ℕ) (last : List Fetched) →
    ReadsShow lines fetches read → FindsAfter judge read log last (Err NotFetched) → FailsLast fetches ⊎ FailsLast last
lines_fail judge lines fetches (Ok s) log last reads finds = inr (log_fails judge s log last finds)
lines_fail judge lines fetches (Err (show.Line number code)) log last reads (none, is) = cc
lines_fail judge lines fetches (Err show.Shelf) log last (number, stops) finds =
    let (name, is) = line_fails stops.show stops.line stops.fetched stops.stops in
    inl record { earlier = stops.earlier; name = name; whole = stops.whole ∙ ap (λ f. stops.earlier ++ f ∷ []) is }
lines_fail judge lines fetches (Err show.Memory) log last reads finds = absurd reads

-- the same after a fetch of the show's file
fails_later : (fetched : Fetched) (fetches last : List Fetched) → FailsLast fetches ⊎ FailsLast last → FailsLast (fetched ∷ fetches) ⊎ FailsLast last
fails_later fetched fetches last (inl fails) = inl record { earlier = fetched ∷ fails.earlier; name = fails.name; whole = ap (λ fs. fetched ∷ fs) fails.whole }
fails_later fetched fetches last (inr fails) = inr fails

finds_from : (judge : Judging) (got : Got) (name log : List ℕ) (lines last : List Fetched) → FindsFrom judge got log lines last (Err NotFetched) →
    FailsLast (of_file name got ∷ lines) ⊎ FailsLast last
finds_from judge (found bytes) name log lines last (read, reads, finds) = fails_later (of_file name (found bytes)) lines last (lines_fail judge _ lines read log last reads finds)
finds_from judge too_large name log lines last (none, nothing, is) = cc
finds_from judge fault name log lines last (none, nothing, is) = inl record { earlier = []; name = name; whole = rw none refl }

finds_fails : (judge : Judging) (name log : List ℕ) (first last : List Fetched) → Finds judge name log first last (Err NotFetched) → FailsLast first ⊎ FailsLast last
finds_fails judge name log first last (got, lines, is, finds) = rw is (finds_from judge got name log lines last finds)

self_eq : (name : List ℕ) → bytes_eq name name ≡ true
self_eq name = (bytes_eq-Decides name name).1 refl

asks_last : (fetches : List Fetched) (fails : FailsLast fetches) → list_any (asks_for fails.name) fetches ≡ true
asks_last fetches fails =
    let last : list_any (asks_for fails.name) (of_file fails.name fault ∷ []) ≡ true = rw (self_eq fails.name) refl in
    rw (fails.whole, list_any-append (asks_for fails.name) fails.earlier (of_file fails.name fault ∷ []), last) (or-true (list_any (asks_for fails.name) fails.earlier))

fails_last : (fetches : List Fetched) (fails : FailsLast fetches) → 1 ≤ count_by (fails_at fails.name) fetches
fails_last fetches fails =
    let last : count_by (fails_at fails.name) (of_file fails.name fault ∷ []) ≡ 1 = rw (self_eq fails.name) refl in
    let all : count_by (fails_at fails.name) fetches ≡ count_by (fails_at fails.name) fails.earlier + 1 =
    rw (fails.whole, count_by-append (fails_at fails.name) fails.earlier (of_file fails.name fault ∷ []), last) refl in
    omega (arith, all)

-- the counts in the call
rose_first : (before mid after n k : ℕ) → 1 ≤ n → min (before + n) (2 ^ 64 - 1) ≤ mid → min (mid + k) (2 ^ 64 - 1) ≤ after → Rose before after
rose_first before mid after n k some first second = omega arith

rose_last : (before mid after n k : ℕ) → 1 ≤ k → min (before + n) (2 ^ 64 - 1) ≤ mid → min (mid + k) (2 ^ 64 - 1) ≤ after → Rose before after
rose_last before mid after n k some first second = omega arith

failed_at : (judge : Judging) (name log : List ℕ) (before after : Outside) (it : Found judge name log before after (Err NotFetched)) → after.written ≡ before.written →
    FailsLast it.first ⊎ FailsLast it.last → NotFound judge name log before after
failed_at judge name log before after it unwritten (inl fails) = record {
  run = it;
  unwritten = unwritten;
  name = fails.name;
  asks = rw (list_any-append (asks_for fails.name) it.first it.last, asks_last it.first fails) refl;
  rose = rose_first (before.faults fails.name) (it.mid.faults fails.name) (after.faults fails.name) _ _ (fails_last it.first fails)
      (it.brought.bound fails.name) (it.brought_log.bound fails.name);
}
failed_at judge name log before after it unwritten (inr fails) = record {
  run = it;
  unwritten = unwritten;
  name = fails.name;
  asks = rw (list_any-append (asks_for fails.name) it.first it.last, asks_last it.last fails) (or-true (list_any (asks_for fails.name) it.first));
  rose = rose_last (before.faults fails.name) (it.mid.faults fails.name) (after.faults fails.name) _ _ (fails_last it.last fails)
      (it.brought.bound fails.name) (it.brought_log.bound fails.name);
}

-- a check to which the shelf failed
pub NotFound-found : (judge : Judging) (name log : List ℕ) (before after : Outside) → Found judge name log before after (Err NotFetched) → after.written ≡ before.written →
    NotFound judge name log before after
NotFound-found judge name log before after it unwritten = failed_at judge name log before after it unwritten (finds_fails judge name log it.first it.last it.finds)
