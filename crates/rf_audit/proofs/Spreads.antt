-- What falls by a carrier that is newly fixed, loop by loop.
use Rattle.std.proofs.Common.{◌≡◌, ◌∙◌, ◌<◌, ◌≤◌, ◌+◌, ℕ, List, length, set, Bool, true, false, sym, ap, arith, Option, Some, is_some, max, nat_lt, slice_index, unsigned_abs}
use Rattle.std.proofs.Common.{get_or-set_same, get_or-set_other, length-set}
use Rattle.std.specs.Option.{unwrap_or}
use Rattle.std.proofs.lemmas.Bool.Decides.{nat_tests}
use Rattle.rf_terms.specs.Forms.{AreFrequencies, value_of}
use Rattle.rf_terms.specs.declared.kind.Kind.{Kind}
use Rattle.rf_terms.specs.declared.kind.Kind.TheVariants.{Spacing, T3Two, T3Three, T5Two, T5ThreeA, T5ThreeB, T7Two}
use Rattle.rf_terms.specs.Kinds.{roles_of}
use Rattle.rf_log.specs.Case.{Case, asked_by, margin_of, freq_of, freqs_at, is_broken}
use Rattle.rf_audit.specs.Left.{in_sets, fixed_at, with_target, AreChosen, Falls, IsAlong, IsCleared, IsClearedWith}
use Rattle.rf_audit.proofs.Sets.{at-set}
use Rattle.rf_log.proofs.CaseLaws.{known_roles, known_in}

pub still : {case : Case} {fixed : List (Option ℕ)} {now new : List (List Bool)} → Falls case fixed now new → (kind : Kind) (roles : List ℕ) (place : ℕ)
    → IsCleared case fixed (in_sets now) kind roles place → IsCleared case fixed (in_sets new) kind roles place
still falls kind roles place cleared made k here = cleared made k (falls.fewer (slice_index roles place) k here)

-- where no carrier asks anything for a kind, none of its instances breaks
margin-none : (case : Case) (kind : Kind) (roles : List ℕ) → ((i : ℕ) → i < roles_of kind → asked_by case kind (slice_index roles i) ≡ 0) → margin_of case kind roles ≡ 0
margin-none case Spacing roles none =
    ap (λ (n : ℕ). max n (asked_by case Spacing (slice_index roles 1))) (none 0 (omega arith)) ∙ ap (λ (n : ℕ). max 0 n) (none 1 (omega arith))
margin-none case T3Two roles none = none 2 (omega arith)
margin-none case T3Three roles none = none 3 (omega arith)
margin-none case T5Two roles none = none 2 (omega arith)
margin-none case T5ThreeA roles none = none 3 (omega arith)
margin-none case T5ThreeB roles none = none 3 (omega arith)
margin-none case T7Two roles none = none 2 (omega arith)

pub idle-cleared : (case : Case) (fixed : List (Option ℕ)) (sets : List (List Bool)) (x : ℕ) (kind : Kind) (place : ℕ)
    → ((c : ℕ) → c < length case.carriers → asked_by case kind c ≡ 0) → IsClearedWith case fixed sets x kind place
idle-cleared case fixed sets x kind place none roles at full low other fix is made k here =
    let zero_margin : margin_of case kind roles ≡ 0 =
    margin-none case kind roles (λ i low_i. none (slice_index roles i) (known_in (length case.carriers) roles i 0 (known_roles case kind roles made) (omega (arith, full, low_i)))) in
    let freqs = freqs_at case roles (with_target fixed (slice_index roles place) k) in
    let none_below : nat_lt (unsigned_abs (value_of kind freqs)) 0 ≡ false = grind (arith, nat_tests) in
    ap (λ (m : ℕ). is_broken kind freqs m) zero_margin ∙ none_below

-- ---- one role more

pub along-more : (depth place : ℕ) (chosen roles : List ℕ) (c : ℕ) → depth < length chosen
    → IsAlong depth place chosen roles → slice_index roles depth ≡ c → IsAlong (depth + 1) place (set chosen depth c) roles
along-more depth place chosen roles c low along is i low_i other =
    at-set (λ j x. j < depth + 1 → (j ≡ place → ⊥) → slice_index roles j ≡ x) chosen depth c 0 low (λ _ _. is) (λ j off low_j other. along j (omega (arith, off, low_j)) other) i low_i other

pub chosen-more : (case : Case) (fixed : List (Option ℕ)) (depth place : ℕ) (chosen freqs : List ℕ) (c k f : ℕ) → (depth ≡ place → ⊥) → depth < length chosen → depth < length freqs
    → c < length case.carriers → fixed_at fixed c ≡ Some k → f ≡ freq_of case c k → AreChosen case fixed depth place chosen freqs
    → AreChosen case fixed (depth + 1) place (set chosen depth c) (set freqs depth f)
chosen-more case fixed depth place chosen freqs c k f apart low low_f known is freq chose = record {
  known = λ i. at-set (λ j x. j < depth + 1 → (j ≡ place → ⊥) → x < length case.carriers) chosen depth c 0 low (λ _ _. known)
      (λ j before low_j other. chose.known j (omega (arith, before, low_j)) other) i;
  are_fixed = λ i. at-set (λ j x. j < depth + 1 → (j ≡ place → ⊥) → is_some (fixed_at fixed x) ≡ true) chosen depth c 0 low (λ _ _. ap is_some is)
      (λ j before low_j other. chose.are_fixed j (omega (arith, before, low_j)) other) i;
  theirs = λ i. at-set (λ j x. j < depth + 1 → (j ≡ place → ⊥) → slice_index (set freqs depth f) j ≡ freq_of case x (unwrap_or (fixed_at fixed x) 0)) chosen depth c 0 low
      (λ _ _. get_or-set_same freqs depth f 0 low_f ∙ freq ∙ ap (λ (o : Option ℕ). freq_of case c (unwrap_or o 0)) (sym is))
      (λ j before low_j other. get_or-set_other freqs depth j f 0 before ∙ chose.theirs j (omega (arith, before, low_j)) other) i;
  target = get_or-set_other freqs depth place f 0 (λ same. apart (sym same)) ∙ chose.target;
}

pub small-more : (freqs : List ℕ) (depth f : ℕ) → depth < length freqs → f ≤ 10000000 → AreFrequencies freqs → AreFrequencies (set freqs depth f)
small-more freqs depth f low_f small all k d low = at-set (λ j x. j < length freqs → x ≤ 10000000) freqs depth f d low_f (λ _. small) (λ j _ low_j. all j d low_j) k
    (let e = length-set freqs depth f in omega (arith, e, low))
