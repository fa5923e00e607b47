use Rattle.std.proofs.Common.{Bor, ◌≡◌, ◌<◌, ◌≤◌, ◌+◌, ◌-◌, ◌++◌, ◌∷◌, [], ℕ, suc, List, true, false, length, Option, Some, None, Result, Ok, Err, arith, refl, add-one, ◌∙◌, ap, inl}
use Rattle.std.specs.Prelude.{nat_lt, IfErr}
use Rattle.std.specs.Result.{IsErrAnd}
use Rattle.std.proofs.lemmas.Bool.Decides.{nat_tests}
use Rattle.csv.specs.Machine.{ends_at_end}
use Rattle.csv.specs.Reading.{Ready, ReadRecord, RowStep, records_from, source_of, strip_bom}
use Rattle.csv.specs.Records.{Row, fields_of}
use Rattle.csv.specs.declared.reader.Reader.{Reader}
use Rattle.csv.specs.declared.error.Error.{Error}
use Rattle.csv.specs.declared.parser.State.TheVariants as st
use Rattle.csv.specs.declared.reader.Trim.TheVariants as trims
use Rattle.rf_scan.specs.Scan.{Fields, config, is_passed_over, point_of, scan_from, scan_of}
use Rattle.rf_exclusions.specs.declared.scan_set.Sep.{Sep}
use Rattle.rf_scan.specs.declared.point.Point.{Point}
use Rattle.rf_scan.specs.declared.fault.ScanFault.{ScanFault}
use Rattle.rf_scan.specs.declared.fault.ScanFault.TheVariants.{BadRecord, Many}
use Rattle.rf_scan.proofs.RecordLemmas.{read_more, read_none, strip_bom_le}

abbrev pub known : Bor (List ℕ) → Option (List ℕ)
known s = Some s.now

-- where a reader of a scan file stands, after `number` records
pub record Place (sep : Sep) (bytes : List ℕ) (rdr : Reader (Bor (List ℕ))) (left number : ℕ) : Type 0 where
  pub trim : rdr.trim ≡ trims.None
  pub ready : Ready rdr
  pub turns : 0 < left
  pub config : rdr.config ≡ config sep
  pub between : ends_at_end rdr.state ≡ false
  pub rest : List ℕ
  pub source : source_of known rdr ≡ Some rest
  pub count : number + length rest ≤ length bytes
  pub fuel : ℕ
  pub enough : length rest ≤ fuel

-- the records that a reader has left
abbrev pub records_left : (sep : Sep) (bytes : List ℕ) (rdr : Reader (Bor (List ℕ))) (left number : ℕ) → Place sep bytes rdr left number → List Fields
records_left sep bytes rdr left number at = records_from (config sep) (suc at.fuel) rdr.state at.rest

-- the points so far, and what is left to scan
pub record Progress (sep : Sep) (bytes : List ℕ) (rdr : Reader (Bor (List ℕ))) (left number : ℕ) (points : List Point) : Type 0 where
  pub at : Place sep bytes rdr left number
  pub scan : scan_of sep bytes ≡ scan_from (number + 1) points (records_left sep bytes rdr left number at)

-- the same with one record that was read and not yet scanned
pub record Advanced (sep : Sep) (bytes : List ℕ) (rdr : Reader (Bor (List ℕ))) (left number : ℕ) (points : List Point) (fields : Fields) : Type 0 where
  pub at : Place sep bytes rdr left (number + 1)
  pub scan : scan_of sep bytes ≡ scan_from (number + 1) points (fields ∷ records_left sep bytes rdr left (number + 1) at)

pub started : (sep : Sep) (bytes : List ℕ) (rdr : Reader (Bor (List ℕ))) (left : ℕ) → rdr.trim ≡ trims.None → Ready rdr → 0 < left
    → rdr.config ≡ config sep → rdr.state ≡ st.StartRecord → source_of known rdr ≡ Some (strip_bom bytes) → Progress sep bytes rdr left 0 []
unfolding scan_of
started sep bytes rdr left trim ready some cfg state source = record {
  at = record {
    trim = trim;
    ready = ready;
    turns = some;
    config = cfg;
    between = rw state refl;
    rest = strip_bom bytes;
    source = source;
    count = omega (arith, strip_bom_le bytes);
    fuel = length (strip_bom bytes);
    enough = omega arith;
  };
  scan = rw (state, add-one) refl;
}

pub advanced : (sep : Sep) (bytes : List ℕ) (a b : Reader (Bor (List ℕ))) (left left2 number : ℕ) (points : List Point) (x : Row)
    → Progress sep bytes a left number points → ReadRecord known a b true (fields_of x) → b.first ≡ true → 0 < left2
    → Advanced sep bytes b left2 number points (fields_of x)
advanced sep bytes a b left left2 number points x p r first some =
    let (z, at_z, one) = read_more known a b (fields_of x) (config sep) p.at.rest p.at.config p.at.source p.at.between r in
    let e : p.at.fuel ≡ suc (p.at.fuel - 1) = omega (arith, one.shorter) in
    record {
      at = record {
        trim = r.3 ∙ p.at.trim;
        ready = inl first;
        turns = some;
        config = r.2 ∙ p.at.config;
        between = one.between;
        rest = z;
        source = at_z;
        count = omega (arith, one.shorter);
        fuel = p.at.fuel - 1;
        enough = omega (arith, one.shorter);
      };
      scan = p.scan ∙ ap (scan_from (number + 1) points) (one.next p.at.fuel ∙ ap (λ (n : ℕ). fields_of x ∷ records_from (config sep) n b.state z) e);
    }

-- what a record comes to, before those that follow it
pub passed_over : (number : ℕ) (points : List Point) (fields : Fields) (rest : List Fields)
    → is_passed_over (length points) fields ≡ true → scan_from number points (fields ∷ rest) ≡ scan_from (number + 1) points rest
unfolding scan_from
passed_over number points fields rest h = rw h refl

pub one_point : (number : ℕ) (points : List Point) (fields : Fields) (p : Point) (rest : List Fields)
    → is_passed_over (length points) fields ≡ false → point_of fields ≡ Ok p → length points < 200000
    → scan_from number points (fields ∷ rest) ≡ scan_from (number + 1) (points ++ p ∷ []) rest
unfolding scan_from
one_point number points fields p rest h ok few =
    let t : nat_lt (length points) 200000 ≡ true = grind (arith, nat_tests) in
    rw (h, ok, t) refl

pub bad_record : (number : ℕ) (points : List Point) (fields : Fields) (k : ℕ) (rest : List Fields)
    → is_passed_over (length points) fields ≡ false → point_of fields ≡ Err k
    → scan_from number points (fields ∷ rest) ≡ Err (BadRecord number k)
unfolding scan_from
bad_record number points fields k rest h bad = rw (h, bad) refl

pub too_many : (number : ℕ) (points : List Point) (fields : Fields) (p : Point) (rest : List Fields)
    → is_passed_over (length points) fields ≡ false → point_of fields ≡ Ok p → 200000 ≤ length points
    → scan_from number points (fields ∷ rest) ≡ Err Many
unfolding scan_from
too_many number points fields p rest h ok many =
    let t : nat_lt (length points) 200000 ≡ false = grind (arith, nat_tests) in
    rw (h, ok, t) refl

-- a record that was taken, and one that was refused
pub taken : {sep : Sep} {bytes : List ℕ} {rdr : Reader (Bor (List ℕ))} {left number : ℕ} {points : List Point} {fields : Fields} (more : List Point)
    → Advanced sep bytes rdr left number points fields
    → ((rest : List Fields) → scan_from (number + 1) points (fields ∷ rest) ≡ scan_from (number + 1 + 1) more rest)
    → Progress sep bytes rdr left (number + 1) more
taken {sep = sep} {bytes = bytes} {rdr = rdr} {left = left} {number = number} more a step =
    record { at = a.at; scan = a.scan ∙ step (records_left sep bytes rdr left (number + 1) a.at) }

pub refused : {sep : Sep} {bytes : List ℕ} {rdr : Reader (Bor (List ℕ))} {left number : ℕ} {points : List Point} {fields : Fields} (e : ScanFault)
    → Advanced sep bytes rdr left number points fields
    → ((rest : List Fields) → scan_from (number + 1) points (fields ∷ rest) ≡ Err e)
    → scan_of sep bytes ≡ Err e
refused {sep = sep} {bytes = bytes} {rdr = rdr} {left = left} {number = number} e a step =
    a.scan ∙ step (records_left sep bytes rdr left (number + 1) a.at)

-- a fault that is handed on
pub handed_on : {A : Type 0} (P : ScanFault → Type 0) (r : Result A ScanFault) (e : ScanFault) → IsErrAnd r (λ x. x ≡ e) → P e → IfErr r P
handed_on P (Ok x) e h p = tt
handed_on P (Err x) e h p = rw h p

pub ended : (sep : Sep) (bytes : List ℕ) (a b : Reader (Bor (List ℕ))) (left number : ℕ) (points : List Point) (f : Fields)
    → Progress sep bytes a left number points → ReadRecord known a b false f → scan_of sep bytes ≡ scan_from (number + 1) points []
ended sep bytes a b left number points f p r =
    p.scan ∙ ap (scan_from (number + 1) points) (read_none known a b f (config sep) p.at.rest p.at.config p.at.source r p.at.fuel)

-- a turn that gave a record, and one that gave none
pub read_one : {sep : Sep} {bytes : List ℕ} {a : Reader (Bor (List ℕ))} {left number : ℕ} {points : List Point} {r : Option (Result Row Error)} {x : Row} (b : Reader (Bor (List ℕ))) (left2 : ℕ)
    → Progress sep bytes a left number points → (Ready a → RowStep known a b left2 r) → r ≡ Some (Ok x)
    → Advanced sep bytes b left2 number points (fields_of x)
read_one {sep = sep} {bytes = bytes} {a = a} {left = left} {number = number} {points = points} {x = x} b left2 p step is =
    let s = rw is at (step p.at.ready) in
    advanced sep bytes a b left left2 number points x p s.0 s.1 s.2

pub read_end : {sep : Sep} {bytes : List ℕ} {a : Reader (Bor (List ℕ))} {left number : ℕ} {points : List Point} {r : Option (Result Row Error)} (b : Reader (Bor (List ℕ))) (left2 : ℕ)
    → Progress sep bytes a left number points → (Ready a → RowStep known a b left2 r) → r ≡ None → scan_of sep bytes ≡ scan_from (number + 1) points []
read_end {sep = sep} {bytes = bytes} {a = a} {left = left} {number = number} {points = points} b left2 p step is =
    ended sep bytes a b left number points [] p (rw is at (step p.at.ready))

-- the number of a record is no more than the bytes
pub number_fits : {sep : Sep} {bytes : List ℕ} {rdr : Reader (Bor (List ℕ))} {left number : ℕ} {points : List Point} {fields : Fields}
    → Advanced sep bytes rdr left number points fields → number + 1 ≤ length bytes
number_fits a = omega (arith, a.at.count)
