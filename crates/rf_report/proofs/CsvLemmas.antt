-- Rows that are written one after another.
use Rattle.std.proofs.Common.{◌≡◌, ◌<◌, ◌+◌, ◌++◌, ◌∙◌, ℕ, List, [], length, take, get_or, append-nil, append_assoc, ◌≤◌, false, refl, Vec, take_all}
use Rattle.std.specs.declared.alloc.Global.{Global}
use Rattle.std.specs.List.{flat_map}
use Rattle.std.proofs.lemmas.List.{take_more}
use Rattle.std.proofs.lemmas.List.Concat.{flat_map-append}
use Rattle.csv.specs.Writing.{default_writer, fields_written, has_written, writer_pending, writer_setup, writer_under}
use Rattle.csv.specs.declared.writer.Writer.{Writer}
use Rattle.rf_report.specs.Csv.{Gains, Holds}

-- one piece, and then another
pub gains_both : (old next new : Writer (Vec ℕ Global)) (piece more : List ℕ) → Gains old next piece → Gains next new more → Gains old new (piece ++ more)
gains_both old next new piece more a b text h = rw (← append_assoc) (b (text ++ piece) (a text h))

-- one row more
pub gains_more : {X : Type 0} (old next new : Writer (Vec ℕ Global)) (row : X → List ℕ) (xs : List X) (index : ℕ) (x : X)
    → index < length xs → Gains old next (flat_map row (take index xs)) → Gains next new (row (get_or xs index x))
    → Gains old new (flat_map row (take (index + 1) xs))
gains_more old next new row xs index x inside a b =
    let taken = take_more xs index x inside in
    rw (taken, flat_map-append, append-nil) (gains_both old next new (flat_map row (take index xs)) (row (get_or xs index x)) a b)

-- all rows
pub gains_all : {X : Type 0} (old new : Writer (Vec ℕ Global)) (row : X → List ℕ) (xs : List X) (index : ℕ) → length xs ≤ index
    → Gains old new (flat_map row (take index xs)) → Gains old new (flat_map row xs)
gains_all old new row xs index h a = let all = take_all index xs h in rw all at a

-- a writer that writes behind a line
pub holds_first : (writer : Writer (Vec ℕ Global)) (bytes : Vec ℕ Global) (line : List ℕ) → writer_under writer ≡ bytes → writer_pending writer ≡ []
    → writer_setup writer ≡ default_writer → fields_written writer ≡ 0 → has_written writer ≡ false → bytes.items ≡ line → Holds writer line
holds_first writer bytes line under pending setup fields shown is =
    record { setup = setup; fields = fields; shown = shown; text = rw (under, pending, append-nil, is) refl }

-- what it gives back
pub holds_last : (writer : Writer (Vec ℕ Global)) (bytes text : List ℕ) → bytes ≡ writer.wtr.inner.items ++ writer.wtr.buf → Holds writer text → bytes ≡ text
holds_last writer bytes text is h = let written = h.text in is ∙ cc
