-- One condition, hint or role more is read.
use Rattle.std.proofs.Common.{◌≡◌, ◌+◌, ◌<◌, ℕ, zero, suc, List, [], ◌∷◌, ◌++◌, false, refl, arith, sym, subst, length, Some, None, Result, Err, codes, slice_set}
use Rattle.std.specs.declared.option.Option.{Option}
use Rattle.std.specs.Str.{bytes_eq}
use Rattle.rf_base.specs.Name.{name_of}
use Rattle.rf_log.specs.declared.cond.Cond.{Cond}
use Rattle.rf_log.specs.declared.hint.Hint.{Hint}
use Rattle.rf_log.specs.Names.{number_of_name, names_with}
use Rattle.rf_log.specs.Operands.{taken}
use Rattle.rf_log.specs.declared.line.LogLine.{LogLine}
use Rattle.rf_log.specs.Reading.{cond_by, conds_in, hint_by, hints_in, line_in, roles_in}
use Rattle.rf_log.specs.LogText.{LogData, log_with}

module _ (conds : List Cond) (names words : List (List ℕ)) where
  pub conds-more : (left next : ℕ) (word : List ℕ) (rest : List (List ℕ)) (cond : Cond) (more after : List (List ℕ))
      → left ≡ suc next → words ≡ word ∷ rest → bytes_eq word (codes ";") ≡ false → cond_by word names rest ≡ Some (cond, more, after)
      → conds_in left conds names words ≡ conds_in next (conds ++ cond ∷ []) more after
  conds-more left next word rest cond more after l h e w = rw (l, h, e, w) refl

module _ (hints : List Hint) (names words : List (List ℕ)) where
  pub hints-end : (left : ℕ) → 0 < left → words ≡ [] → hints_in left hints names words ≡ Some (hints, names)
  hints-end zero some h = absurd (omega arith)
  hints-end (suc left) some h = rw h refl

  pub hints-wrong : (left : ℕ) (word : List ℕ) (rest : List (List ℕ)) → words ≡ word ∷ rest → hint_by word names rest ≡ None → hints_in left hints names words ≡ None
  hints-wrong zero word rest h w = refl
  hints-wrong (suc left) word rest h w = rw (h, w) refl

  pub hints-more : (left next : ℕ) (word : List ℕ) (rest : List (List ℕ)) (hint : Hint) (more after : List (List ℕ))
      → left ≡ suc next → words ≡ word ∷ rest → hint_by word names rest ≡ Some (hint, more, after)
      → hints_in left hints names words ≡ hints_in next (hints ++ hint ∷ []) more after
  hints-more left next word rest hint more after l h w = rw (l, h, w) refl

module _ (roles : List ℕ) (names words : List (List ℕ)) (place : ℕ) where
  pub roles-more : (left next after : ℕ) (name : List ℕ) (rest : List (List ℕ)) → left ≡ suc next → after ≡ suc place → taken name_of words ≡ Some (name, rest)
      → roles_in left place roles names words ≡ roles_in next after (slice_set roles place (number_of_name names name)) (names_with names name) rest
  roles-more left next after name rest l a h = rw (l, a, h) refl

-- one line more
pub log-more : (names more : List (List ℕ)) (lines : List LogLine) (all rest : List (List ℕ)) (bytes : List ℕ) (line : LogLine)
    → all ≡ bytes ∷ rest → line_in names bytes ≡ Some (line, more)
    → log_with (record { names = names; lines = lines }) all ≡ log_with (record { names = more; lines = lines ++ line ∷ [] }) rest
log-more names more lines all rest bytes line h e =
    let P : Option (LogLine × List (List ℕ)) → Type 0 = λ o.
    (elim o as (λ _. Result LogData ℕ) [
      | None ↦ Err (length lines + 1)
      | Some read ↦ log_with (record { names = read.1; lines = lines ++ read.0 ∷ [] }) rest
    ]) ≡ log_with (record { names = more; lines = lines ++ line ∷ [] }) rest in
    rw h (subst P (sym e) refl)
