-- What the next call of a source, a sink or a shelf in memory answers.
use Rattle.std.specs.Prelude.{◌≡◌, ℕ, Bool, true, false, ◌+◌, ◌-◌, ◌^◌, ◌==◌, ◌&&◌, ◌||◌, not, min, List, Vec, Result, Ok, Err, MatchResult, is_none, drop, vec_len}
use Rattle.std.specs.List.{list_any}
use Rattle.std.specs.declared.alloc.Global.{Global}
use Rattle.rf_base.specs.Shelf.{file_of}
use Rattle.rf_base.specs.declared.mem.MemSource.{MemSource}
use Rattle.rf_base.specs.declared.mem.MemSink.{MemSink}
use Rattle.rf_base.specs.declared.mem_shelf.MemShelf.{MemShelf}
use Rattle.rf_base.specs.declared.outside.Failed.{Failed as NotMoved}
use Rattle.rf_base.specs.declared.shelf.Fetch.{Fetch}
use Rattle.rf_base.specs.declared.shelf.Fetch.TheVariants.{Failed, Large, Memory}

-- one more, and no more at the end of 64 bits
abbrev pub one_more : ℕ → ℕ
one_more n = min (n + 1) (2 ^ 64 - 1)

-- the call of this number is among those that are to fail
abbrev pub is_listed : List ℕ → ℕ → Bool
is_listed fail call = list_any (λ n. n == call) fail

-- A read or a write fails exactly where it is to, and else moves so many bytes.
abbrev pub Moves : Bool → ℕ → Result ℕ NotMoved → Type 0
Moves fails count result = MatchResult result (λ n. (fails ≡ false) × (n ≡ count)) (λ _. fails ≡ true)

-- The count of faults rises by one where the call failed, and stays elsewhere.
abbrev pub CountsFault : ℕ → ℕ → Result ℕ NotMoved → Type 0
CountsFault before after result = MatchResult result (λ _. after ≡ before) (λ _. after ≡ one_more before)

-- ---- a source

-- the bytes that are left
abbrev pub left_of : MemSource → List ℕ
left_of source = drop source.given source.bytes.items

abbrev pub read_fails : MemSource → Bool
read_fails source = is_listed source.fail.items (one_more source.calls)

-- as many bytes as there is room for, at most `most`, and at most those that are left
abbrev pub read_count : MemSource → ℕ → ℕ
read_count source room = min (min room source.most) (vec_len source.bytes - source.given)

-- ---- a sink

abbrev pub free : MemSink → ℕ
free sink = sink.room - vec_len sink.bytes

-- A full sink takes nothing of a piece that has bytes.
abbrev pub write_fails : MemSink → ℕ → Bool
write_fails sink piece = (free sink == 0 && not (piece == 0)) || is_listed sink.fail.items (one_more sink.calls)

-- as many bytes as the piece has, at most `most`, and at most those that there is room for
abbrev pub write_count : MemSink → ℕ → ℕ
write_count sink piece = min (min piece sink.most) (free sink)

-- ---- a shelf

-- the fetch of this number fails: it is to, or the name has no file
abbrev pub fails_at : MemShelf → ℕ → List ℕ → Bool
fails_at shelf call name = is_listed shelf.fail.items call || is_none (file_of shelf.files.items name)

-- the next fetch fails
abbrev pub fetch_fails : MemShelf → List ℕ → Bool
fetch_fails shelf name = fails_at shelf (one_more shelf.calls) name

-- Want of memory apart, a fetch fails exactly where it is to.
abbrev pub FailsAs : Bool → Result (Vec ℕ Global) Fetch → Type 0
FailsAs fails (Ok found) = fails ≡ false
FailsAs fails (Err Failed) = fails ≡ true
FailsAs fails (Err Large) = fails ≡ false
FailsAs fails (Err Memory) = Unit {0}

-- The name's count of faults rises by one where the fetch failed, and stays elsewhere.
abbrev pub CountsFetch : ℕ → ℕ → Result (Vec ℕ Global) Fetch → Type 0
CountsFetch before after (Ok found) = after ≡ before
CountsFetch before after (Err Failed) = after ≡ one_more before
CountsFetch before after (Err Large) = after ≡ before
CountsFetch before after (Err Memory) = after ≡ before
