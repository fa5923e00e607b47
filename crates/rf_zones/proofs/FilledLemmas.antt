use Rattle.std.proofs.Common.{◌≡◌, ℕ, suc, zero, true, ◌+◌, ◌-◌, ◌<◌, ◌≤◌, List, [], ◌∷◌, ◌++◌, length, get_or, set, take, drop, replicate, refl, ap, sym, ◌∙◌, append_assoc, arith, length-append}
use Rattle.std.specs.List.{list_all}
use Rattle.std.proofs.lemmas.List.{length-set, set-set, length-take-le, length-replicate, replicate-append-replicate, set-append_left, take_at, take_more, take_more_set, take-append-drop, take-set}
use Rattle.std.proofs.lemmas.List.{length_push, take-take}
use Rattle.rf_zones.specs.Couplings.{is_apart}
use Rattle.rf_zones.specs.Filled.{filled_to}
use Rattle.rf_zones.specs.declared.coupling.Coupling.{Coupling}
use Rattle.rf_zones.specs.declared.coupling.Coupling.TheVariants.{Apart, Coupled, Far}

pub length-filled : {X : Type 0} (room : ℕ) (d : X) (xs : List X) → length xs ≤ room → length (filled_to room d xs) ≡ room
unfolding filled_to
length-filled {X} room d xs h = omega (arith, length-append xs (replicate (room - length xs) d), length-replicate {A = X} (room - length xs) d)

-- an array with a list at its front is as long as its room
pub length-cells : {X : Type 0} (room len : ℕ) (d : X) (cells : List X) → filled_to room d (take len cells) ≡ cells → length (take len cells) ≡ len → len ≤ room → length cells ≡ room
length-cells room len d cells full sized within = ap length (sym full) ∙ length-filled room d (take len cells) (omega arith)

-- fillers at the end are of the list or not
pub filled-more : {X : Type 0} (room n : ℕ) (d : X) (xs : List X) → length xs + n ≤ room → filled_to room d (xs ++ replicate n d) ≡ filled_to room d xs
unfolding filled_to
filled-more {X} room n d xs h =
    let left : n + (room - length (xs ++ replicate n d)) ≡ room - length xs =
    omega (arith, length-append xs (replicate n d), length-replicate {A = X} n d) in
    append_assoc xs (replicate n d) (replicate (room - length (xs ++ replicate n d)) d)
    ∙ ap (λ ys. xs ++ ys) (replicate-append-replicate n (room - length (xs ++ replicate n d)) d ∙ ap (λ m. replicate m d) left)

set-fill : {X : Type 0} (xs : List X) (m : ℕ) (d x : X) → set (xs ++ replicate (suc m) d) (length xs) x ≡ (xs ++ x ∷ []) ++ replicate m d
set-fill [] m d x = refl
set-fill (y ∷ xs) m d x = ap (λ q. y ∷ q) (set-fill xs m d x)

pub filled-push : {X : Type 0} (room : ℕ) (d x : X) (xs : List X) → length xs < room → filled_to room d (xs ++ x ∷ []) ≡ set (filled_to room d xs) (length xs) x
unfolding filled_to
filled-push room d x xs h =
    let rest : ℕ = room - length (xs ++ x ∷ []) in
    let more : suc rest ≡ room - length xs = omega (arith, length-append xs (x ∷ [])) in
    sym (set-fill xs rest d x) ∙ ap (λ n. set (xs ++ replicate n d) (length xs) x) more

pub filled-set : {X : Type 0} (room i : ℕ) (d x : X) (xs : List X) → i < length xs → filled_to room d (set xs i x) ≡ set (filled_to room d xs) i x
unfolding filled_to
filled-set room i d x xs h =
    ap (λ n. set xs i x ++ replicate (room - n) d) (length-set xs i x) ∙ sym (set-append_left xs (replicate (room - length xs) d) i x h)

pub take-filled : {X : Type 0} (room : ℕ) (d : X) (xs : List X) (n : ℕ) → length xs ≡ n → take n (filled_to room d xs) ≡ xs
unfolding filled_to
take-filled room d xs n e = take_at xs (replicate (room - length xs) d) n e

-- the cells after a push
pub pushed_cells : {X : Type 0} (room len : ℕ) (d x : X) (cells : List X) → filled_to room d (take len cells) ≡ cells → length (take len cells) ≡ len → len < room →
    (filled_to room d (take (len + 1) (set cells len x)) ≡ set cells len x) × (length (take (len + 1) (set cells len x)) ≡ len + 1) × (take (len + 1) (set cells len x) ≡ take len cells ++ x ∷ [])
pushed_cells room len d x cells full sized within =
    let size : length cells ≡ room = length-cells room len d cells full sized (omega arith) in
    let taken : take (len + 1) (set cells len x) ≡ take len cells ++ x ∷ [] = take_more_set cells len x (omega arith) in
    let again : filled_to room d (take len cells ++ x ∷ []) ≡ set cells len x =
    filled-push room d x (take len cells) (omega arith) ∙ ap (λ q. set q (length (take len cells)) x) full ∙ ap (λ n. set cells n x) sized in
    (ap (filled_to room d) taken ∙ again, ap length taken ∙ length_push (take len cells) x ∙ ap (λ n. n + 1) sized, taken)

-- the cells after a write
pub written_cells : {X : Type 0} (room len i : ℕ) (d x : X) (cells : List X) → filled_to room d (take len cells) ≡ cells → length (take len cells) ≡ len → i < len →
    (filled_to room d (take len (set cells i x)) ≡ set cells i x) × (length (take len (set cells i x)) ≡ len) × (take len (set cells i x) ≡ set (take len cells) i x)
written_cells room len i d x cells full sized within =
    let there : i < length (take len cells) = omega arith in
    let whole : filled_to room d (set (take len cells) i x) ≡ set cells i x =
    filled-set room i d x (take len cells) there ∙ ap (λ q. set q i x) full in
    let size : length (set (take len cells) i x) ≡ len = length-set (take len cells) i x ∙ sized in
    let taken : take len (set cells i x) ≡ set (take len cells) i x =
    ap (take len) (sym whole) ∙ take-filled room d (set (take len cells) i x) len size in
    (ap (filled_to room d) taken ∙ whole, ap length taken ∙ size, taken)

-- the cells where fillers are taken into the list
pub grown_cells : {X : Type 0} (room len n : ℕ) (d : X) (cells : List X) → filled_to room d (take len cells) ≡ cells → length (take len cells) ≡ len → len + n ≤ room →
    (filled_to room d (take (len + n) cells) ≡ cells) × (length (take (len + n) cells) ≡ len + n) × (take (len + n) cells ≡ take len cells ++ replicate n d)
grown_cells {X} room len n d cells full sized within =
    let xs : List X = take len cells in
    let whole : filled_to room d (xs ++ replicate n d) ≡ cells = filled-more room n d xs (omega arith) ∙ full in
    let size : length (xs ++ replicate n d) ≡ len + n = omega (arith, length-append xs (replicate n d), length-replicate {A = X} n d) in
    let taken : take (len + n) cells ≡ xs ++ replicate n d =
    ap (take (len + n)) (sym whole) ∙ take-filled room d (xs ++ replicate n d) (len + n) size in
    (ap (filled_to room d) taken ∙ whole, ap length taken ∙ size, taken)

-- the cells where fillers are taken out of the list
pub shrunk_cells : {X : Type 0} (room len n : ℕ) (d : X) (cells : List X) → filled_to room d (take len cells) ≡ cells → length (take len cells) ≡ len → len ≤ room → n ≤ len →
    drop (len - n) (take len cells) ≡ replicate n d →
    (filled_to room d (take (len - n) cells) ≡ cells) × (length (take (len - n) cells) ≡ len - n) × (take (len - n) cells ≡ take (len - n) (take len cells))
shrunk_cells {X} room len n d cells full sized within fewer off =
    let taken : take (len - n) cells ≡ take (len - n) (take len cells) = sym (take-take (len - n) len cells (omega arith)) in
    let size : length (take (len - n) (take len cells)) ≡ len - n = length-take-le (len - n) (take len cells) (omega arith) in
    let split : take (len - n) (take len cells) ++ replicate n d ≡ take len cells =
    ap (λ ys. take (len - n) (take len cells) ++ ys) (sym off) ∙ take-append-drop (len - n) (take len cells) in
    let whole : filled_to room d (take (len - n) (take len cells)) ≡ cells =
    sym (filled-more room n d (take (len - n) (take len cells)) (omega arith)) ∙ ap (filled_to room d) split ∙ full in
    (ap (filled_to room d) taken ∙ whole, ap length taken ∙ size, taken)

-- couplings that are all apart
pub all_apart : (cs : List Coupling) → list_all is_apart cs ≡ true → cs ≡ replicate (length cs) Apart
all_apart [] h = refl
all_apart (Apart ∷ cs) h = ap (λ rest. Apart ∷ rest) (all_apart cs h)
all_apart (Coupled ∷ cs) h = cc
all_apart (Far ∷ cs) h = cc

pub apart_all : (n : ℕ) → list_all is_apart (replicate n Apart) ≡ true
apart_all zero = refl
apart_all (suc n) = apart_all n

-- the first filler is one
filled-next : {X : Type 0} (room len : ℕ) (d : X) (xs : List X) → length xs ≡ len → len < room → set (filled_to room d xs) len d ≡ filled_to room d xs
filled-next room len d xs size within =
    let more : filled_to room d (xs ++ replicate 1 d) ≡ filled_to room d xs = filled-more room 1 d xs (omega arith) in
    ap (λ n. set (filled_to room d xs) n d) (sym size) ∙ sym (filled-push room d d xs (omega arith)) ∙ more

-- the cells after the last is taken away
pub popped_cells : {X : Type 0} (room len : ℕ) (d : X) (cells : List X) → filled_to room d (take (len + 1) cells) ≡ cells → length (take (len + 1) cells) ≡ len + 1 → len + 1 ≤ room →
    (filled_to room d (take len (set cells len d)) ≡ set cells len d) × (length (take len (set cells len d)) ≡ len) ×
    ((e : X) → take (len + 1) cells ≡ take len (set cells len d) ++ get_or cells len e ∷ [])
popped_cells {X} room len d cells full sized within =
    let size : length cells ≡ room = length-cells room (len + 1) d cells full sized within in
    let xs : List X = take len cells in
    let xs_size : length xs ≡ len = length-take-le len cells (omega arith) in
    let front : take len (set cells len d) ≡ xs = take-set cells len d in
    let last : (e : X) → take (len + 1) cells ≡ xs ++ get_or cells len e ∷ [] = λ e. take_more cells len e (omega arith) in
    let cells_is : filled_to room d (xs ++ get_or cells len d ∷ []) ≡ cells = ap (filled_to room d) (sym (last d)) ∙ full in
    let pushed : set (filled_to room d xs) len (get_or cells len d) ≡ cells =
    ap (λ n. set (filled_to room d xs) n (get_or cells len d)) (sym xs_size)
    ∙ sym (filled-push room d (get_or cells len d) xs (omega arith)) ∙ cells_is in
    let whole : filled_to room d xs ≡ set cells len d =
    sym (filled-next room len d xs xs_size (omega arith))
    ∙ sym (set-set (filled_to room d xs) len (get_or cells len d) d)
    ∙ ap (λ q. set q len d) pushed in
    (ap (filled_to room d) front ∙ whole, ap length front ∙ xs_size, λ e. last e ∙ ap (λ ys. ys ++ get_or cells len e ∷ []) (sym front))

pub popped_at : {X : Type 0} (room len m : ℕ) (d : X) (cells : List X) → len ≡ m + 1 → filled_to room d (take len cells) ≡ cells → length (take len cells) ≡ len → len ≤ room →
    (filled_to room d (take m (set cells m d)) ≡ set cells m d) × (length (take m (set cells m d)) ≡ m) × ((e : X) → take len cells ≡ take m (set cells m d) ++ get_or cells m e ∷ [])
popped_at room len m d cells e full sized within =
    rw e (popped_cells room m d cells (rw e at full) (rw e at sized) (rw e at within))
