-- Bytes that are appended and taken in pieces.
use Rattle.std.proofs.Common.{◌≡◌, ℕ, ◌+◌, ◌-◌, ◌≤◌, ◌<◌, min, List, [], ◌∷◌, ◌++◌, length, take, drop, set, arith, length-append, append_assoc, length-take, length-drop, take-append-drop, sym, Some, None}
use Rattle.std.proofs.lemmas.List.{take_at, take_all, take_rest, take_more_set, drop-drop, append-nil}
use Rattle.std.proofs.Math.Seq.{take-add}
use Rattle.std.specs.Io.KnownBytes.{Appends}
use Rattle.std.specs.declared.option.Option.{Option}

-- one piece after another
pub Appends-then : (a b c : Option (List ℕ)) (x y z : List ℕ) → Appends a b x → Appends b c y → z ≡ x ++ y → Appends a c z
Appends-then None b c x y z first second joined = tt
Appends-then (Some p) None c x y z first second joined = absurd first
Appends-then (Some p) (Some q) None x y z first second joined = absurd second
Appends-then (Some p) (Some q) (Some r) x y z first second joined = rw (second, first, joined) (append_assoc p x y)

-- a front, and then a front of the slice of what is left
pub take-add_rest : (m n : ℕ) (xs : List ℕ) → take (m + n) xs ≡ take m xs ++ take n (take (length xs - m) (drop m xs))
take-add_rest m n xs = rw take_rest (take-add m n xs)

-- what is left before a read is what the read gave, and what is left after it
pub drop_split : (given count : ℕ) (xs rest : List ℕ) → given + count ≤ length xs →
    drop given xs ≡ take count (take (given + count - given) (drop given xs) ++ rest) ++ drop (given + count) xs
drop_split given count xs rest within =
    let same : given + count - given ≡ count = omega arith in
    let room : length (take count (drop given xs)) ≡ count = simp (length-take, length-drop) (omega arith) in
    rw (same, take_at _ rest count room, ← drop-drop count given xs) (sym (take-append-drop count (drop given xs)))

-- a byte written at the end of what is held
pub held_more : (xs : List ℕ) (n byte : ℕ) → n < 4096 → length xs ≡ 4096 →
    take (min (n + 1) 4096) (set xs n byte) ≡ take 4096 (take (min n 4096) xs ++ byte ∷ [])
held_more xs n byte room size =
    let here : min n 4096 ≡ n = omega arith in
    let next : min (n + 1) 4096 ≡ n + 1 = omega arith in
    let inside : n < length xs = omega arith in
    let more : length (take n xs ++ byte ∷ []) ≤ 4096 = simp (length-append, length-take) (omega arith) in
    rw (here, next, take_all 4096 (take n xs ++ byte ∷ []) more) (take_more_set xs n byte inside)

-- a byte past the room
pub held_full : (xs : List ℕ) (n byte : ℕ) → 4096 ≤ n → length xs ≡ 4096 →
    take (min (n + 1) 4096) xs ≡ take 4096 (take (min n 4096) xs ++ byte ∷ [])
held_full xs n byte full size =
    let here : min n 4096 ≡ 4096 = omega arith in
    let next : min (n + 1) 4096 ≡ 4096 = omega arith in
    let front : length (take 4096 xs) ≡ 4096 = simp (length-take) (omega arith) in
    rw (here, next) (sym (take_at (take 4096 xs) (byte ∷ []) 4096 front))

pub Appends-nil : (contents : Option (List ℕ)) → Appends contents contents []
Appends-nil None = tt
Appends-nil (Some bytes) = sym (append-nil bytes)
