-- Single removals, and what is left to each carrier.
use Rattle.std.proofs.Common.{◌≡◌, ℕ, ◌+◌, ◌<◌, ◌≤◌, List, ◌∷◌, Bool, true, false, length, refl, sym, ◌∙◌, ap, subst, arith, inl, inr, Result, Ok, Err, OnOk, OnErr, Some}
use Rattle.std.proofs.lemmas.List.{length-map}
use Rattle.rf_log.specs.declared.hint.Hint.TheVariants.{Ban}
use Rattle.rf_log.specs.Case.{Case, counts_of}
use Rattle.rf_log.specs.Relations.{IsLiving, IsEmptied}
use Rattle.rf_log.specs.Hints.{Line, is_barred}
use Rattle.rf_log.specs.Box.{between, without}
use Rattle.rf_domain.specs.Sets.{size_of, sizes, has}
use Rattle.rf_trail.specs.declared.entry.Entry.{Entry}
use Rattle.rf_trail.specs.Trace.{Trace, has_of, box_of}
use Rattle.rf_propagate.specs.Laws.{Extends, same, more, IsJustified}
use Rattle.rf_base.proofs.NumberLaws.{lt_cases}
use Rattle.rf_base.proofs.OptionLaws.{if_true}
use Rattle.rf_log.proofs.BoxLaws.{without_gone}

-- a removal by a ban
barred_is : {case : Case} {lines : List Line} {es : List Entry} (c lo hi : ℕ) → is_barred case c lo hi ≡ true → lo ≤ hi → hi < size_of (counts_of case) c
    → IsJustified case lines es (record { carrier = c; lo = lo; hi = hi; hint = Some (Ban c lo hi) })
barred_is {case} {lines} {es} c lo hi barred ordered known = record {
  hint = Ban c lo hi;
  is = refl;
  after = without (has_of (counts_of case) es) c (between lo hi);
  works = if_true (is_barred case c lo hi) _ barred;
  gone = λ k inside. without_gone (has_of (counts_of case) es) c (between lo hi) k inside;
  own = (refl, refl, refl);
  ordered = ordered;
  in_range = known;
}

-- after a removal with a reason that may want memory
remove_step : {A E : Type 0} (case : Case) (lines : List Line) (old new : Trace) (e : Entry) → IsJustified case lines old.entries e
    → (r : Result A E) → OnOk r (new ≡ record { counts = old.counts; entries = e ∷ old.entries }) → OnErr r (new ≡ old)
    → Extends case lines old.entries new.entries
remove_step case lines old new e why (Ok x) is none =
    subst (λ (es : List Entry). Extends case lines old.entries es) (sym (ap (λ t. t.entries) is)) (more same why)
remove_step case lines old new e why (Err x) none is =
    subst (λ (es : List Entry). Extends case lines old.entries es) (sym (ap (λ t. t.entries) is)) same

pub banned_step : {A E : Type 0} (old new : Trace) (c lo hi : ℕ) → lo ≤ hi → hi < size_of old.counts c
    → (r : Result A E) → OnOk r (new ≡ record old { entries = record { carrier = c; lo = lo; hi = hi; hint = Some (Ban c lo hi) } ∷ old.entries }) → OnErr r (new ≡ old)
    → (case : Case) (lines : List Line) → old.counts ≡ counts_of case → is_barred case c lo hi ≡ true → Extends case lines old.entries new.entries
banned_step old new c lo hi ordered known r ok err case lines counts barred =
    let within : hi < size_of (counts_of case) c = subst (λ (ns : List ℕ). hi < size_of ns c) counts known in
    remove_step case lines old new (record { carrier = c; lo = lo; hi = hi; hint = Some (Ban c lo hi) }) (barred_is c lo hi barred ordered within) r ok err

-- each of the first carriers has an index
pub record AllLive (sets : List (List Bool)) (upto : ℕ) : Type 0 where
  pub each : (c : ℕ) → c < upto → (k : ℕ) × (has sets c k ≡ true)

pub live_more : (sets : List (List Bool)) (c k : ℕ) → AllLive sets c → has sets c k ≡ true → AllLive sets (c + 1)
live_more sets c k live here = record {
  each = λ x below. elim (lt_cases x c (omega arith)) [
    | inl earlier ↦ live.each x earlier
    | inr last ↦ subst (λ (y : ℕ). (j : ℕ) × (has sets y j ≡ true)) (sym last) (k, here)
  ];
}

-- the sets of a trail, in the words of a case
pub live_box : (sets : List (List Bool)) (t : Trace) (upto : ℕ) → sizes sets ≡ t.counts → has sets ≡ has_of t.counts t.entries → length sets ≤ upto
    → AllLive sets upto → (case : Case) → t.counts ≡ counts_of case → IsLiving case (box_of t)
live_box sets t upto sized left all live case counts c known =
    let size : length sets ≡ length (counts_of case) = sym (length-map sets length) ∙ ap length (sized ∙ counts) in
    let some = live.each c (omega arith) in
    (some.0, sym (ap (λ f. f c some.0) left) ∙ some.1)

pub emptied_box : (sets : List (List Bool)) (t : Trace) (c : ℕ) → sizes sets ≡ t.counts → has sets ≡ has_of t.counts t.entries → c < length sets
    → ((k : ℕ) → has sets c k ≡ false) → (case : Case) → t.counts ≡ counts_of case → IsEmptied case (box_of t) c
emptied_box sets t c sized left known none case counts =
    let size : length sets ≡ length (counts_of case) = sym (length-map sets length) ∙ ap length (sized ∙ counts) in
    (omega arith, λ k here. let gone : has_of t.counts t.entries c k ≡ false = sym (ap (λ f. f c k) left) ∙ none k in cc)
