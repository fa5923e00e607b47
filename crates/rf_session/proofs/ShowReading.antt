-- The reading of a show file, line by line.
use Rattle.std.proofs.Common.{◌≡◌, ◌+◌, ℕ, List, [], ◌∷◌, ◌++◌, length, Some, None, Result, Ok, Err, false, refl, ap, sym, ◌∙◌, subst, append_assoc, append-nil, length-append}
use Rattle.std.proofs.lemmas.List.Folds.{list_any-append}
use Rattle.std.proofs.lemmas.Option.{same_Some}
use Rattle.std.specs.declared.option.Option.{Option}
use Rattle.rf_base.specs.Input.{Input, TakesLine, lines_of}
use Rattle.rf_base.specs.Reader.{input_of}
use Rattle.rf_base.specs.Script.{Line}
use Rattle.rf_base.specs.Told.{WhereTold}
use Rattle.rf_base.specs.declared.line_reader.LineReader.{LineReader}
use Rattle.rf_base.proofs.InputLaws.{GoesTo-takes}
use Rattle.rf_show.specs.Show.{ShowData, first_show}
use Rattle.rf_session.specs.declared.reply.Code.{Code}
use Rattle.rf_session.specs.declared.show_file.LineFault.{LineFault}
use Rattle.rf_session.specs.declared.show_file.LineFault.TheVariants.{Refused, Shelf}
use Rattle.rf_session.specs.declared.show_file.Taken.{Taken}
use Rattle.rf_session.specs.declared.show_file.ShowFault.TheVariants.{Line as BadLine, Shelf as NotFetched}
use Rattle.rf_session.specs.Fetches.{Fetched, Outside, Brought, KeptCounts}
use Rattle.rf_session.specs.ShowFile.{Makes, ReadsLine, ShowRead, StopsAt, are_naming, line_file}
use Rattle.rf_session.specs.ShowLines.{Reads, Takes}
use Rattle.rf_session.specs.Top.{script}
use Rattle.rf_session.specs.Unfetched.{is_file}
use Rattle.rf_session.proofs.FetchLaws.{Brought-none, Brought-then, KeptCounts-then}
use Rattle.std.proofs.lemmas.Bool.{or_parts}

-- one line more
Makes-then : (old mid new : ShowData) (lines : List Line) (fetches : List Fetched) (line : Line) (fetched : Fetched) →
    Makes old lines fetches mid → ReadsLine mid line fetched (Ok new) → Makes old (lines ++ line ∷ []) (fetches ++ fetched ∷ []) new
Makes-then old mid new [] [] line fetched so_far reads = (new, subst (λ (s : ShowData). ReadsLine s line fetched (Ok new)) so_far reads, refl)
Makes-then old mid new [] (f ∷ fs) line fetched so_far reads = absurd so_far
Makes-then old mid new (x ∷ xs) [] line fetched so_far reads = absurd so_far
Makes-then old mid new (x ∷ xs) (f ∷ fs) line fetched (next, first, rest) reads = (next, first, Makes-then next mid new xs fs line fetched rest reads)

-- a file that no line names is not named by the next line
pub line_unnamed : (name : List ℕ) (line : Line) (old new : Input) → TakesLine line old new → are_naming name (lines_of old) ≡ false →
    is_file name (line_file line) ≡ false
line_unnamed name line old new takes none =
    let goes = GoesTo-takes line old new takes in
    (or_parts (is_file name (line_file line)) (are_naming name (lines_of new)) (sym (ap (are_naming name) goes.lines) ∙ none)).0

-- How far a show file was read: these lines of it made the show.
pub record Reading (bytes : List ℕ) (before now : Outside) (show : ShowData) (reader : LineReader) (left : Option (List ℕ)) (count : ℕ) : Type 0 where
  pub rest : List ℕ
  pub told : left ≡ Some rest
  pub done : List Line
  pub fetches : List Fetched
  pub all : lines_of (script bytes) ≡ done ++ lines_of (input_of reader rest)
  pub makes : Makes first_show done fetches show
  pub place : count ≡ length done
  pub brought : Brought before now fetches
  pub kept : KeptCounts before now fetches
  pub others : (name : List ℕ) → are_naming name (lines_of (script bytes)) ≡ false → now.faults name ≡ before.faults name

pub Reading-begin : (bytes : List ℕ) (o : Outside) (show : ShowData) (reader : LineReader) (left : Option (List ℕ)) → show ≡ first_show →
    ((x : List ℕ) → input_of reader x ≡ script x) → left ≡ Some bytes → Reading bytes o o show reader left 0
Reading-begin bytes o show reader left first starts told = record {
  rest = bytes;
  told = told;
  done = [];
  fetches = [];
  all = ap (λ (i : Input). lines_of i) (sym (starts bytes));
  makes = first;
  place = refl;
  brought = Brought-none o;
  kept = λ name none. refl;
  others = λ name none. refl;
}

-- what holds of bytes that are told
told_then : (left left' : Option (List ℕ)) (rest : List ℕ) (P : List ℕ → List ℕ → Type 0) → left ≡ Some rest → WhereTold left left' P →
    (rest' : List ℕ) × (left' ≡ Some rest') × P rest rest'
told_then None left' rest P is told = cc
told_then (Some x) None rest P is told = absurd told
told_then (Some x) (Some y) rest P is told = (y, refl, subst (λ (z : List ℕ). P z y) (same_Some x rest is) told)

-- what an answer says, where it is this one
pub took_is : (r named : Result Taken LineFault) (left left' : Option (List ℕ)) (old new : ShowData) (now after : Outside) (reader reader' : LineReader) → r ≡ named →
    WhereTold left left' (λ x y. Takes r old new now after (input_of reader x) (input_of reader' y)) →
    WhereTold left left' (λ x y. Takes named old new now after (input_of reader x) (input_of reader' y))
took_is r named left left' old new now after reader reader' is told =
    subst (λ (q : Result Taken LineFault). WhereTold left left' (λ x y. Takes q old new now after (input_of reader x) (input_of reader' y))) is told

-- the lines that are left name no file that no line names
rest_unnamed : (name : List ℕ) (lines done rest : List Line) → lines ≡ done ++ rest → are_naming name lines ≡ false → are_naming name rest ≡ false
rest_unnamed name lines done rest all none =
    let split = list_any-append (λ line. is_file name (line_file line)) done rest in
    (or_parts (are_naming name done) (are_naming name rest) (sym split ∙ (sym (ap (are_naming name) all) ∙ none))).1

module _ (bytes : List ℕ) (before now after : Outside) (show : ShowData) (reader reader' : LineReader) (left left' : Option (List ℕ)) (count : ℕ)
    (so_far : Reading bytes before now show reader left count) where
  -- the files that no line names
  pub Reading-others : WhereTold left left' (λ x y. (name : List ℕ) → are_naming name (lines_of (input_of reader x)) ≡ false → after.faults name ≡ now.faults name) →
      (name : List ℕ) → are_naming name (lines_of (script bytes)) ≡ false → after.faults name ≡ before.faults name
  Reading-others told name none =
      let (rest', is, others) = told_then left left' so_far.rest (λ x y. (other : List ℕ) → are_naming other (lines_of (input_of reader x)) ≡ false →
      after.faults other ≡ now.faults other) so_far.told told in
      others name (rest_unnamed name (lines_of (script bytes)) so_far.done (lines_of (input_of reader so_far.rest)) so_far.all none) ∙ so_far.others name none

  pub Reading-more : (new : ShowData) → WhereTold left left' (λ x y. Reads show (Ok new) now after (input_of reader x) (input_of reader' y)) →
      WhereTold left left' (λ x y. (name : List ℕ) → are_naming name (lines_of (input_of reader x)) ≡ false → after.faults name ≡ now.faults name) →
      Reading bytes before after new reader' left' (count + 1)
  Reading-more new told others =
      let (rest', is, (line, takes, obeyed)) = told_then left left' so_far.rest (λ x y. Reads show (Ok new) now after (input_of reader x) (input_of reader' y)) so_far.told told in
      let goes = GoesTo-takes line (input_of reader so_far.rest) (input_of reader' rest') takes in
      record {
        rest = rest';
        told = is;
        done = so_far.done ++ line ∷ [];
        fetches = so_far.fetches ++ obeyed.fetched ∷ [];
        all = rw (so_far.all, goes.lines) (sym (append_assoc so_far.done (line ∷ []) (lines_of (input_of reader' rest'))));
        makes = Makes-then first_show show new so_far.done so_far.fetches line obeyed.fetched so_far.makes obeyed.took;
        place = rw (length-append so_far.done (line ∷ []), so_far.place) refl;
        brought = Brought-then before now after so_far.fetches (obeyed.fetched ∷ []) so_far.brought obeyed.brought;
        kept = KeptCounts-then before now after so_far.fetches (obeyed.fetched ∷ []) so_far.kept obeyed.kept;
        others = Reading-others others;
      }

  pub Reading-end : (new : ShowData) → WhereTold left left' (λ x y. (lines_of (input_of reader x) ≡ []) × (new ≡ show) × (after ≡ now)) →
      ShowRead (lines_of (script bytes)) before after (Ok new)
  Reading-end new told =
      let (rest', is, (none, same, still)) = told_then left left' so_far.rest (λ x y. (lines_of (input_of reader x) ≡ []) × (new ≡ show) × (after ≡ now)) so_far.told told in
      let all : lines_of (script bytes) ≡ so_far.done = rw (so_far.all, none) (append-nil so_far.done) in
      rw (all, same, still) record { fetches = so_far.fetches; reads = so_far.makes; brought = so_far.brought; kept = so_far.kept }

  -- The next line makes no show.
  pub record Stops (fault : LineFault) : Type 0 where
    pub fetches : List Fetched
    pub stops : StopsAt (lines_of (script bytes)) fetches (count + 1) fault
    pub brought : Brought before after fetches
    pub kept : KeptCounts before after fetches

  Reading-stops : (fault : LineFault) → WhereTold left left' (λ x y. Reads show (Err fault) now after (input_of reader x) (input_of reader' y)) → Stops fault
  Reading-stops fault told =
      let (rest', is, (line, takes, obeyed)) = told_then left left' so_far.rest (λ x y. Reads show (Err fault) now after (input_of reader x) (input_of reader' y)) so_far.told told in
      let goes = GoesTo-takes line (input_of reader so_far.rest) (input_of reader' rest') takes in
      record {
        fetches = so_far.fetches ++ obeyed.fetched ∷ [];
        stops = record {
          done = so_far.done;
          line = line;
          rest = lines_of (input_of reader' rest');
          all = rw (so_far.all, goes.lines) refl;
          place = rw so_far.place refl;
          earlier = so_far.fetches;
          fetched = obeyed.fetched;
          whole = refl;
          show = show;
          makes = so_far.makes;
          stops = obeyed.took;
        };
        brought = Brought-then before now after so_far.fetches (obeyed.fetched ∷ []) so_far.brought obeyed.brought;
        kept = KeptCounts-then before now after so_far.fetches (obeyed.fetched ∷ []) so_far.kept obeyed.kept;
      }

  pub Reading-refused : (code : Code) → WhereTold left left' (λ x y. Reads show (Err (Refused code)) now after (input_of reader x) (input_of reader' y)) →
      ShowRead (lines_of (script bytes)) before after (Err (BadLine (count + 1) code))
  Reading-refused code told =
      let it = Reading-stops (Refused code) told in record { fetches = it.fetches; reads = it.stops; brought = it.brought; kept = it.kept }

  pub Reading-failed : WhereTold left left' (λ x y. Reads show (Err Shelf) now after (input_of reader x) (input_of reader' y)) →
      ShowRead (lines_of (script bytes)) before after (Err NotFetched)
  Reading-failed told =
      let it = Reading-stops Shelf told in record { fetches = it.fetches; reads = (count + 1, it.stops); brought = it.brought; kept = it.kept }
