-- A line is answered E11 only where its fetch was a fault.
use Rattle.std.proofs.Common.{◌≡◌, ◌≤◌, ◌+◌, ◌-◌, ◌^◌, ◌&&◌, min, ℕ, Bool, true, false, List, [], ◌∷◌, ◌++◌, Result, Ok, Err, count_by, cond, refl, ap, sym, ◌∙◌, arith}
use Rattle.std.proofs.lemmas.Bool.{and_parts, false≢true}
use Rattle.std.specs.List.{zip}
use Rattle.std.specs.Str.{bytes_eq}
use Rattle.rf_base.specs.Script.{Line, short, long}
use Rattle.rf_base.specs.declared.decimal.Decimal.{Decimal}
use Rattle.rf_profiles.specs.declared.fault.ProfilesFault.{ProfilesFault}
use Rattle.rf_profiles.specs.declared.fault.ProfilesFault.TheVariants as profiles
use Rattle.rf_profiles.specs.declared.profile.Profile.{Profile}
use Rattle.rf_scan.specs.declared.fault.ScanFault.{ScanFault}
use Rattle.rf_scan.specs.declared.fault.ScanFault.TheVariants as scan
use Rattle.rf_scan.specs.declared.point.Point.{Point}
use Rattle.rf_exclusions.specs.declared.scan_set.Sep.{Sep}
use Rattle.rf_show.specs.declared.edit.Edit.TheVariants as edit
use Rattle.rf_show.specs.declared.refusal.Refusal.{Refusal}
use Rattle.rf_show.specs.declared.refusal.Refusal.TheVariants as refusal
use Rattle.rf_editor.specs.History.{History, edited_history}
use Rattle.rf_text.specs.Commands.{command_of}
use Rattle.rf_text.specs.declared.command.Command.{Command}
use Rattle.rf_text.specs.declared.command.Command.TheVariants as command
use Rattle.rf_text.specs.declared.command.UnknownLine.{UnknownLine}
use Rattle.rf_profiles.specs.File.{profiles_of}
use Rattle.rf_scan.specs.Scan.{scan_of}
use Rattle.rf_session.specs.declared.answer.Answer.{Answer}
use Rattle.rf_session.specs.declared.answer.Answer.TheVariants.{Reply as Says, Inquiry as Ask, Search}
use Rattle.rf_session.specs.declared.reply.Reply.{Reply}
use Rattle.rf_session.specs.Fetches.{Fetched, of_file, Got, found, too_large, fault, Outside, fails_at, fetch_of}
use Rattle.rf_session.specs.Files.{hot_or, profiles_or}
use Rattle.rf_session.specs.Run.{Run, Step}
use Rattle.rf_session.specs.Shows.{Answers, Obeys, Steps, coded, edited_by, file_of, moved, outcome, profiles_edit, scan_edit}
use Rattle.rf_session.specs.Unfetched.{asks_of, is_file, is_shelf_fault, names, unfetched, IsBounded}
use Rattle.rf_session.proofs.FetchLaws.{count_by-append}

-- whether an answer is E11
abbrev answer_faults : Answer → Bool
answer_faults (Says reply) = is_shelf_fault reply
answer_faults (Ask inquiry) = false
answer_faults (Search n places) = false

gives_fault : (history new : History) (answer : Answer) (reply : Reply) → Answers history answer reply new → is_shelf_fault reply ≡ true → answer_faults answer ≡ true
gives_fault history new (Says said) reply (is, stays) h = sym (ap is_shelf_fault is) ∙ h
gives_fault history new (Ask inquiry) reply ((text, tells, is), stays) h = absurd (false≢true (sym (ap is_shelf_fault is) ∙ h))
gives_fault history new (Search n places) reply (ending, text, searched, is, leaves) h = absurd (false≢true (sym (ap is_shelf_fault is) ∙ h))

moved_other : (old : History) (r : Result History Refusal) → answer_faults (moved old (coded r)).answer ≡ false
moved_other old (Ok h) = refl
moved_other old (Err refusal.Unknown) = refl
moved_other old (Err refusal.Taken) = refl
moved_other old (Err refusal.Number) = refl
moved_other old (Err refusal.InUse) = refl
moved_other old (Err refusal.NoFrequency) = refl
moved_other old (Err refusal.Locked) = refl
moved_other old (Err refusal.Full) = refl

profiles_other : (old : History) (r : Result (List Profile) ProfilesFault) → answer_faults (edited_by old (profiles_edit (profiles_or r))).answer ≡ false
profiles_other old (Ok list) = moved_other old (edited_history old (edit.AddProfiles list))
profiles_other old (Err profiles.Toml) = refl
profiles_other old (Err (profiles.BadProfile number field)) = refl
profiles_other old (Err profiles.Memory) = refl

scan_other : (old : History) (file zone : List ℕ) (threshold : Decimal) (width : ℕ) (sep : Sep) (r : Result (List Point) ScanFault) →
    answer_faults (edited_by old (scan_edit file zone threshold width sep (hot_or threshold r))).answer ≡ false
scan_other old file zone threshold width sep (Ok points) = moved_other old _
scan_other old file zone threshold width sep (Err scan.NoPoints) = refl
scan_other old file zone threshold width sep (Err (scan.BadRecord number field)) = refl
scan_other old file zone threshold width sep (Err scan.Many) = refl
scan_other old file zone threshold width sep (Err scan.Memory) = refl

-- what came of a file is a fault where the reply is E11
profiles_fault : (old : History) (name file : List ℕ) (got : Got) → answer_faults (outcome old (command.Profiles file) got).answer ≡ true →
    fails_at name (of_file file got) ≡ bytes_eq file name
profiles_fault old name file (found bytes) h = absurd (false≢true (sym (profiles_other old (profiles_of bytes)) ∙ h))
profiles_fault old name file too_large h = absurd (false≢true h)
profiles_fault old name file fault h = refl

scan_fault : (old : History) (name file zone : List ℕ) (threshold : Decimal) (width : ℕ) (sep : Sep) (got : Got) →
    answer_faults (outcome old (command.Scan file zone threshold width sep) got).answer ≡ true → fails_at name (of_file file got) ≡ bytes_eq file name
scan_fault old name file zone threshold width sep (found bytes) h = absurd (false≢true (sym (scan_other old file zone threshold width sep (scan_of sep bytes)) ∙ h))
scan_fault old name file zone threshold width sep too_large h = absurd (false≢true h)
scan_fault old name file zone threshold width sep fault h = refl

command_fault : (old : History) (name : List ℕ) (c : Command) (got : Got) → is_file name (file_of c) ≡ true →
    answer_faults (outcome old c got).answer ≡ true → fails_at name (fetch_of (file_of c) got) ≡ true
command_fault old name (command.Profiles file) got asks h = profiles_fault old name file got h ∙ asks
command_fault old name (command.Scan file zone threshold width sep) got asks h = scan_fault old name file zone threshold width sep got h ∙ asks
command_fault old name _ got asks h = absurd (false≢true asks)

said_fault : (old new : History) (name : List ℕ) (said : Result Command UnknownLine) (fetched : Fetched) (reply : Reply) → Obeys old said fetched reply new →
    asks_of name said ≡ true → is_shelf_fault reply ≡ true → fails_at name fetched ≡ true
said_fault old new name (Err unknown) fetched reply obeys asks h = absurd (false≢true asks)
said_fault old new name (Ok c) fetched reply (got, brought, gives) asks h =
    rw brought (command_fault old name c got asks (gives_fault (outcome old c got).history new (outcome old c got).answer reply gives h))

step_fault : (old new : History) (name : List ℕ) (line : Line) (fetched : Fetched) (reply : Reply) → Step Steps old line fetched reply new →
    (names name line && is_shelf_fault reply) ≡ true → fails_at name fetched ≡ true
step_fault old new name long fetched reply step h = absurd (false≢true h)
step_fault old new name (short bytes) fetched reply step h =
    let (asks, is) = and_parts (asks_of name (command_of bytes)) (is_shelf_fault reply) h in
    said_fault old new name (command_of bytes) fetched reply step asks is

one_fault : (b c : Bool) → (b ≡ true → c ≡ true) → 0 + cond b 1 0 ≤ 0 + cond c 1 0
one_fault true true h = omega arith
one_fault true false h = absurd (false≢true (h refl))
one_fault false true h = omega arith
one_fault false false h = omega arith

le_sum : {x y : ℕ} (a m b n : ℕ) → x ≡ a + m → y ≡ b + n → a ≤ b → m ≤ n → x ≤ y
le_sum a m b n is is' first rest = rw (is, is') (omega (arith, first, rest))

pub run_faults : (old new : History) (name : List ℕ) (lines : List Line) (fetches : List Fetched) (replies : List Reply) →
    Run (Step Steps) old lines fetches replies new → unfetched name lines replies ≤ count_by (fails_at name) fetches
run_faults old new name [] [] [] run = omega arith
run_faults old new name [] [] (r ∷ rs) run = absurd run
run_faults old new name [] (f ∷ fs) rs run = absurd run
run_faults old new name (l ∷ ls) [] rs run = absurd run
run_faults old new name (l ∷ ls) (f ∷ fs) [] run = absurd run
run_faults old new name (l ∷ ls) (f ∷ fs) (r ∷ rs) (mid, step, run) =
    let counted : Line × Reply → Bool = λ x. names name x.0 && is_shelf_fault x.1 in
    le_sum (count_by counted ((l, r) ∷ [])) (unfetched name ls rs) (count_by (fails_at name) (f ∷ [])) (count_by (fails_at name) fs)
    (count_by-append counted ((l, r) ∷ []) (zip ls rs)) (count_by-append (fails_at name) (f ∷ []) fs)
    (one_fault (names name l && is_shelf_fault r) (fails_at name f) (step_fault old mid name l f r step)) (run_faults mid new name ls fs rs run)

-- the bound on faults bounds the replies
pub IsBounded-run : (old new : History) (before after : Outside) (lines : List Line) (fetches : List Fetched) (replies : List Reply) →
    Run (Step Steps) old lines fetches replies new →
    ((name : List ℕ) → min (before.faults name + count_by (fails_at name) fetches) (2 ^ 64 - 1) ≤ after.faults name) → IsBounded before after lines replies
IsBounded-run old new before after lines fetches replies run bound = λ name.
    let few = run_faults old new name lines fetches replies run in
    let most = bound name in omega (arith, few, most)

-- the same where a further line was begun
pub IsBounded-broken : (old new : History) (before after : Outside) (lines : List Line) (fetches : List Fetched) (replies : List Reply) (last : Fetched) →
    Run (Step Steps) old lines fetches replies new →
    ((name : List ℕ) → min (before.faults name + count_by (fails_at name) (fetches ++ last ∷ [])) (2 ^ 64 - 1) ≤ after.faults name) → IsBounded before after lines replies
IsBounded-broken old new before after lines fetches replies last run bound = λ name.
    let few = run_faults old new name lines fetches replies run in
    let more : count_by (fails_at name) (fetches ++ last ∷ []) ≡ count_by (fails_at name) fetches + count_by (fails_at name) (last ∷ []) = count_by-append (fails_at name) fetches (last ∷ []) in
    let most = bound name in omega (arith, few, more, most)
