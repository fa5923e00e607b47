use Rattle.std.proofs.Common.{◌≡◌, ℕ, zero, suc, ◌+◌, ◌-◌, ◌<◌, ◌≤◌, List, [], ◌∷◌, ◌++◌, length, get_or, set, take, drop, replicate, slice_get, Some, refl, ap, sym, ◌∙◌, arith, length-append}
use Rattle.std.proofs.Common.{append-nil}
use Rattle.std.proofs.lemmas.List.{at_drop_more, take-append-drop, take_more_set, length-replicate}
use Rattle.std.proofs.lemmas.List.Concat.{flat_map-append}
use Rattle.rf_profiles.specs.Range.{Span, span, IsRange, frequencies}
use Rattle.rf_profiles.specs.Channels.{channels, RisesFrom, last_to, IsChannels, filled}
use Rattle.rf_base.proofs.ListLaws.{get_left}

pub slice_get_right : {X : Type 0} (xs ys : List X) (k n : ℕ) → n ≡ length xs + k → slice_get (xs ++ ys) n ≡ slice_get ys k
slice_get_right [] ys k n e = ap (slice_get ys) (e ∙ omega arith)
slice_get_right (x ∷ xs) ys k zero e = absurd (omega arith)
slice_get_right (x ∷ xs) ys k (suc n) e = slice_get_right xs ys k n (omega arith)

-- the channels from the i-th range on
pub channels-drop : (rs : List Span) (i : ℕ) (r : Span) → i < length rs → r ≡ get_or rs i r → channels (drop i rs) ≡ frequencies r ++ channels (drop (i + 1) rs)
channels-drop rs i r h is =
    at_drop_more channels rs i r h ∙ ap (λ q. frequencies q ++ channels (drop (i + 1) rs)) (sym is)

pub channels-split : (rs : List Span) (i : ℕ) → channels rs ≡ channels (take i rs) ++ channels (drop i rs)
channels-split rs i = ap channels (sym (take-append-drop i rs)) ∙ flat_map-append frequencies (take i rs) (drop i rs)

-- what is sought is in the i-th range
pub found_here : (rs : List Span) (i k f : ℕ) (r : Span) → i < length rs → r ≡ get_or rs i r → slice_get (frequencies r) k ≡ Some f → slice_get (channels (drop i rs)) k ≡ Some f
found_here rs i k f r h is at = rw (channels-drop rs i r h is) (get_left (frequencies r) _ k f at)

-- it is in a later one
pub found_later : (rs : List Span) (i k n : ℕ) (r : Span) → i < length rs → r ≡ get_or rs i r →
    n ≡ length (frequencies r) → n ≤ k → slice_get (channels (drop (i + 1) rs)) (k - n) ≡ slice_get (channels (drop i rs)) k
found_later rs i k n r h is e past = rw (channels-drop rs i r h is) (sym (slice_get_right (frequencies r) _ (k - n) k (omega arith)))

pub length-channels-drop : (rs : List Span) (i : ℕ) (r : Span) → i < length rs → r ≡ get_or rs i r → length (channels (drop i rs)) ≡ length (frequencies r) + length (channels (drop (i + 1) rs))
length-channels-drop rs i r h is = ap length (channels-drop rs i r h is) ∙ length-append (frequencies r) (channels (drop (i + 1) rs))

pub found_in : (rs : List Span) (i k below f : ℕ) (r : Span) → i < length rs → r ≡ get_or rs i r →
    below ≡ length (channels (take i rs)) → slice_get (frequencies r) k ≡ Some f → slice_get (channels rs) (below + k) ≡ Some f
found_in rs i k below f r h is e at =
    ap (λ fs. slice_get fs (below + k)) (channels-split rs i)
    ∙ slice_get_right (channels (take i rs)) (channels (drop i rs)) k (below + k) (omega arith)
    ∙ found_here rs i k f r h is at

next : (n : ℕ) → suc (suc n - 1) ≡ suc (suc n) - 1
next n = omega arith

pub last_to_is : (rs : List Span) (last : ℕ) (d : Span) → 1 ≤ length rs → last_to last rs ≡ (get_or rs (length rs - 1) d).to
last_to_is [] last d h = absurd (omega arith)
last_to_is (r ∷ []) last d h = refl
last_to_is (r ∷ s ∷ rs) last d h =
    last_to_is (s ∷ rs) r.to d (omega arith)
    ∙ ap (λ n. (get_or (r ∷ s ∷ rs) n d).to) (next (length rs))

pub RisesFrom-push : (rs : List Span) (last : ℕ) (r : Span) → RisesFrom last rs → IsRange r → last_to last rs < r.from → RisesFrom last (rs ++ r ∷ [])
RisesFrom-push [] last r rises ok above = (ok, above, tt)
RisesFrom-push (s ∷ rs) last r rises ok above = (rises.0, rises.1, RisesFrom-push rs s.to r rises.2 ok above)

pub IsChannels-push : (rs : List Span) (r : Span) → IsChannels rs → IsRange r → last_to 0 rs < r.from → length (channels (rs ++ r ∷ [])) ≤ 65536 → length rs < 8 → IsChannels (rs ++ r ∷ [])
IsChannels-push rs r h ok above many few = record {
  some = omega (arith, length-append rs (r ∷ []));
  few = omega (arith, length-append rs (r ∷ []));
  rising = RisesFrom-push rs 0 r h.rising ok above;
  many = many;
}

pub length-channels-push : (rs : List Span) (r : Span) → length (channels (rs ++ r ∷ [])) ≡ length (channels rs) + length (frequencies r)
length-channels-push rs r =
    ap length (flat_map-append frequencies rs (r ∷ []))
    ∙ length-append (channels rs) (frequencies r ++ [])
    ∙ ap (λ n. length (channels rs) + n) (ap length (append-nil (frequencies r)))

set-fill : (rs : List Span) (m : ℕ) (z r : Span) → set (rs ++ replicate (suc m) z) (length rs) r ≡ (rs ++ r ∷ []) ++ replicate m z
set-fill [] m z r = refl
set-fill (x ∷ rs) m z r = ap (λ q. x ∷ q) (set-fill rs m z r)

pub filled-push : (rs : List Span) (r : Span) → length rs < 8 → filled (rs ++ r ∷ []) ≡ set (filled rs) (length rs) r
filled-push rs r h =
    let z : Span = span 1 1 1 in
    let left : 8 - length (rs ++ r ∷ []) ≡ 7 - length rs = omega (arith, length-append rs (r ∷ [])) in
    let more : suc (7 - length rs) ≡ 8 - length rs = omega arith in
    ap (λ n. (rs ++ r ∷ []) ++ replicate n z) left
    ∙ sym (set-fill rs (7 - length rs) z r)
    ∙ ap (λ n. set (rs ++ replicate n z) (length rs) r) more

pub length-filled : (rs : List Span) → length rs ≤ 8 → length (filled rs) ≡ 8
length-filled rs h =
    omega (arith, length-append rs (replicate (8 - length rs) (span 1 1 1)), length-replicate {A = Span} (8 - length rs) (span 1 1 1))

-- the fields after a push
pub pushed_is : (ranges : List Span) (len : ℕ) (r : Span) → filled (take len ranges) ≡ ranges → length (take len ranges) ≡ len → IsChannels (take len ranges ++ r ∷ []) →
    IsChannels (take (len + 1) (set ranges len r)) × (filled (take (len + 1) (set ranges len r)) ≡ set ranges len r) × (length (take (len + 1) (set ranges len r)) ≡ len + 1)
pushed_is ranges len r full size ok =
    let few : length (take len ranges) < 8 = omega (arith, ok.few, length-append (take len ranges) (r ∷ [])) in
    let eight : length ranges ≡ 8 = ap length (sym full) ∙ length-filled (take len ranges) (omega arith) in
    let within : len < length ranges = omega arith in
    let again : filled (take len ranges ++ r ∷ []) ≡ set ranges len r =
    filled-push (take len ranges) r few ∙ ap (λ q. set q (length (take len ranges)) r) full ∙ ap (λ n. set ranges n r) size in
    rw (take_more_set ranges len r within) (ok, again, omega (arith, length-append (take len ranges) (r ∷ [])))
