-- Bytes that are text.
use Rattle.std.proofs.Common.{◌<◌, ℕ, Bool, List, [], ◌∷◌, IsTrue, Result, Ok, Err, refl}
use Rattle.std.proofs.lemmas.Bool.{and_parts}
use Rattle.std.specs.List.{list_all}
use Rattle.std.specs.Result.{IsOk, MatchResult}
use Rattle.std.specs.Str.{IsAscii, IsUtf8}
use Rattle.std.proofs.lemmas.Str.{IsUtf8-from_ascii}
use Rattle.std.proofs.lemmas.Str.Ascii.{IsAscii-nil, IsAscii-cons}

low : (test : ℕ → Bool) → ((b : ℕ) → IsTrue (test b) → b < 128) → (bytes : List ℕ) → IsTrue (list_all test bytes) → IsAscii bytes
low test below [] v = IsAscii-nil
low test below (b ∷ more) v =
    let both = and_parts (test b) (list_all test more) v in
    IsAscii-cons b more (below b both.0) (low test below more both.1)

-- bytes are text where each passes a test that only bytes below 128 pass
pub text_of_low : (test : ℕ → Bool) → ((b : ℕ) → IsTrue (test b) → b < 128) → (bytes : List ℕ) → IsTrue (list_all test bytes) → IsUtf8 bytes
text_of_low test below bytes v = IsUtf8-from_ascii bytes (low test below bytes v)

-- text is read from bytes that are text
pub ok_from_utf8 : {T E : Type 0} (U : Type 0) (P : T → Type 0) (Q : E → Type 0) (r : Result T E) → U → MatchResult r P (λ e. ¬ U × Q e) → IsOk r
ok_from_utf8 U P Q (Ok x) u m = refl
ok_from_utf8 U P Q (Err e) u m = absurd (m.0 u)
