-- What one instance removes from its target.
use Rattle.std.proofs.Common.{◌≡◌, ◌≢◌, ◌∙◌, ℕ, zero, suc, ◌+◌, ◌<◌, ◌≤◌, ◌==◌, Bool, true, false, List, [], ◌∷◌, length, map, take, drop, get_or, refl, sym, ap, subst, arith, All, Result}
use Rattle.std.proofs.Common.{Ok, Err, OnOk, OnErr, Some, insert, is_some, pos, true≢false, ne_eqb, get_or-take}
use Rattle.std.specs.List.{list_all}
use Rattle.std.specs.Option.{unwrap_or}
use Rattle.std.proofs.Math.Path.{fun_ext}
use Rattle.std.proofs.lemmas.Bool.{and_parts}
use Rattle.std.proofs.lemmas.Bool.Decides.{nat_tests}
use Rattle.std.proofs.lemmas.List.Elements.{All-append, All-take, All-drop, All-cons}
use Rattle.rf_terms.specs.declared.kind.Kind.{Kind}
use Rattle.rf_terms.specs.Kinds.{roles_of}
use Rattle.rf_terms.specs.Windows.{Breaks}
use Rattle.rf_log.specs.declared.hint.Hint.{Hint}
use Rattle.rf_log.specs.declared.hint.Hint.TheVariants.{Rule}
use Rattle.rf_log.specs.Case.{Case, count_of, counts_of, freq_of, margin_of, is_instance, is_among}
use Rattle.rf_log.specs.Box.{Box, between, only_index, without}
use Rattle.rf_log.specs.Hints.{Line, is_ruled_out}
use Rattle.rf_zones.specs.declared.mask.TheConstants.{MAX_CARRIERS}
use Rattle.rf_domain.specs.Sets.{size_of}
use Rattle.rf_trail.specs.declared.entry.Entry.{Entry}
use Rattle.rf_trail.specs.Trace.{Trace, has_of}
use Rattle.rf_trail.proofs.TraceLaws.{has_size}
use Rattle.rf_propagate.specs.Laws.{Extends, same, more, IsJustified}
use Rattle.rf_props.specs.Sweeps.{left, sole_freq, AreFixed, IsClear, KeepsRows, AreBroken}
use Rattle.rf_props.proofs.CountLemmas.{count_at, count_any}
use Rattle.rf_props.proofs.InsertLemmas.{distinct_insert}
use Rattle.rf_props.proofs.InstanceLemmas.{breaks_if, breaks_then, ruled_out, clear_unbroken}
use Rattle.rf_base.proofs.OptionLaws.{if_true}
use Rattle.rf_log.proofs.CaseLaws.{instance_distinct}
use Rattle.rf_log.proofs.BoxLaws.{without_gone}

pub known_insert : (n : ℕ) (others : List ℕ) (place target : ℕ) → All (λ c. c < n) others → target < n → All (λ c. c < n) (insert others place target)
known_insert n others place target known low =
    All-append (λ c. c < n) (take place others) (target ∷ drop place others) (All-take (λ c. c < n) place others known)
    (All-cons (λ c. c < n) target (drop place others) low (All-drop (λ c. c < n) place others known))

pub small_roles : (n : ℕ) (roles : List ℕ) → All (λ c. c < n) roles → n ≤ MAX_CARRIERS → (i : ℕ) → i < length roles → get_or roles i 0 < 4294967296
small_roles n roles known few i low = omega (arith, known i 0 low)

-- an index that is left is one of the carrier's
pub sized_left : (case : Case) (t : Trace) → t.counts ≡ counts_of case → (c k : ℕ) → left t c k ≡ true → k < count_of case c
sized_left case t counts c k here =
    omega (arith, has_size t.counts t.entries c k here, ap (λ ns. size_of ns c) counts, count_any case c)

pub apart_of : (case : Case) (kind : Kind) (others : List ℕ) (place target : ℕ) → is_instance case kind (insert others place target) ≡ true → is_among others target ≡ false
apart_of case kind others place target good = distinct_insert others place target (instance_distinct case kind (insert others place target) good)

pub clear_by : (case : Case) (t : Trace) (kind : Kind) (place : ℕ) (others freqs : List ℕ) (target : ℕ) → t.counts ≡ counts_of case
    → target < length case.carriers → AreFixed case (left t) others freqs
    → ((k : ℕ) → left t target k ≡ true → k < count_of case target → Breaks kind place freqs (margin_of case kind (insert others place target)) (pos (freq_of case target k)) → ⊥)
    → IsClear case (left t) kind (insert others place target) target
clear_by case t kind place others freqs target counts known fixed none =
    clear_unbroken case (left t) kind (insert others place target) target (λ k here. sized_left case t counts target k here)
    (λ k here good sole broken. none k here (sized_left case t counts target k here)
    (breaks_then case (left t) kind others freqs place target k fixed (apart_of case kind others place target good) broken))

pub clear_other : (case : Case) (t : Trace) (kind : Kind) (roles : List ℕ) (target : ℕ) → t.counts ≡ counts_of case → target < length case.carriers → is_instance case kind roles ≡ false
    → IsClear case (left t) kind roles target
clear_other case t kind roles target counts known bad =
    clear_unbroken case (left t) kind roles target (λ k here. sized_left case t counts target k here) (λ k here good sole broken. true≢false (sym good ∙ bad))

pub only_same : (case : Case) (old new : Box) (o : ℕ) → new o ≡ old o → only_index case new o ≡ only_index case old o
only_same case old new o e = ap (λ (row : ℕ → Bool). only_index case (λ c. row) o) e

sole_same : (case : Case) (old new : Box) (o : ℕ) → new o ≡ old o → sole_freq case new o ≡ sole_freq case old o
sole_same case old new o e = ap (λ i. freq_of case o (unwrap_or i 0)) (only_same case old new o e)

-- carriers that keep their rows stay fixed
pub fixed_kept : (case : Case) (old new : Box) (others freqs : List ℕ) → ((o : ℕ) → is_among others o ≡ true → new o ≡ old o) → AreFixed case old others freqs → AreFixed case new others freqs
fixed_kept case old new others freqs rows fixed = record { sole = all_sole others rows fixed.sole; known = fixed.known ∙ sym (same_freqs others rows) }
  where
    rest_rows : (o : ℕ) (os : List ℕ) → ((r : ℕ) → is_among (o ∷ os) r ≡ true → new r ≡ old r) → (r : ℕ) → is_among os r ≡ true → new r ≡ old r
    rest_rows o os rows r among = rows r (grind (arith, nat_tests))

    first_row : (o : ℕ) (os : List ℕ) → ((r : ℕ) → is_among (o ∷ os) r ≡ true → new r ≡ old r) → new o ≡ old o
    first_row o os rows = rows o (grind (arith, nat_tests))

    all_sole : (os : List ℕ) → ((r : ℕ) → is_among os r ≡ true → new r ≡ old r) → list_all (λ c. is_some (only_index case old c)) os ≡ true → list_all (λ c. is_some (only_index case new c)) os ≡ true
    all_sole [] rows all = refl
    all_sole (o ∷ os) rows all =
        let parts = and_parts (is_some (only_index case old o)) (list_all (λ c. is_some (only_index case old c)) os) all in
        let here : is_some (only_index case new o) ≡ true = ap is_some (only_same case old new o (first_row o os rows)) ∙ parts.0 in
        rw here (all_sole os (rest_rows o os rows) parts.1)

    same_freqs : (os : List ℕ) → ((r : ℕ) → is_among os r ≡ true → new r ≡ old r) → map (sole_freq case new) os ≡ map (sole_freq case old) os
    same_freqs [] rows = refl
    same_freqs (o ∷ os) rows =
        ap (λ f. f ∷ map (sole_freq case new) os) (sole_same case old new o (first_row o os rows)) ∙ ap (λ fs. sole_freq case old o ∷ fs) (same_freqs os (rest_rows o os rows))

-- another carrier's row stays
pub other_row : (box : Box) (target lo hi o : ℕ) → o ≢ target → without box target (between lo hi) o ≡ box o
other_row box target lo hi o other = fun_ext (λ k. row k)
  where
    row : (k : ℕ) → without box target (between lo hi) o k ≡ box o k
    row k = let e : (o == target) ≡ false = ne_eqb o target other in grind (arith, nat_tests)

among_other : (others : List ℕ) (target o : ℕ) → is_among others target ≡ false → is_among others o ≡ true → o ≢ target
among_other others target o apart among e = true≢false (sym among ∙ ap (is_among others) e ∙ apart)

abbrev struck : Trace → ℕ → ℕ → ℕ → Hint → Trace
struck t target lo hi hint = record { counts = t.counts; entries = record { carrier = target; lo = lo; hi = hi; hint = Some hint } ∷ t.entries }

-- what stands after a removal that may want memory
pub rows_after : {A E : Type 0} (old new : Trace) (others : List ℕ) (target lo hi : ℕ) (hint : Hint) → is_among others target ≡ false
    → (r : Result A E) → OnOk r (new ≡ struck old target lo hi hint) → OnErr r (new ≡ old) → KeepsRows others old new
rows_after old new others target lo hi hint apart (Ok x) is none = record {
  each = λ o among. ap (λ t. left t o) is ∙ other_row (left old) target lo hi o (among_other others target o apart among);
}
rows_after old new others target lo hi hint apart (Err x) none is = record { each = λ o among. ap (λ t. left t o) is }

pub clear_after : {A E : Type 0} (case : Case) (old new : Trace) (kind : Kind) (place : ℕ) (others freqs : List ℕ) (target lo hi : ℕ) (hint : Hint)
    → old.counts ≡ counts_of case → target < length case.carriers → is_among others target ≡ false → AreFixed case (left old) others freqs
    → AreBroken case kind place (insert others place target) freqs target lo hi
    → (r : Result A E) → OnOk r (new ≡ struck old target lo hi hint) → OnOk r (IsClear case (left new) kind (insert others place target) target)
clear_after case old new kind place others freqs target lo hi hint counts known apart fixed broken (Ok x) is =
    let now : Trace = struck old target lo hi hint in
    let fixed' : AreFixed case (left now) others freqs =
    fixed_kept case (left old) (left now) others freqs (λ o among. other_row (left old) target lo hi o (among_other others target o apart among)) fixed in
    let clear : IsClear case (left now) kind (insert others place target) target =
    clear_by case now kind place others freqs target counts known fixed' (λ k here low breaking.
    true≢false (sym here ∙ without_gone (left old) target (between lo hi) k (broken.all k low breaking))) in
    subst (λ (t : Trace). IsClear case (left t) kind (insert others place target) target) (sym is) clear
clear_after case old new kind place others freqs target lo hi hint counts known apart fixed broken (Err x) none = none

at_place : (others : List ℕ) (place target : ℕ) → place ≤ length others → get_or (insert others place target) place 0 ≡ target
at_place [] place target low = let e : place ≡ 0 = omega arith in rw e refl
at_place (o ∷ os) zero target low = refl
at_place (o ∷ os) (suc place) target low = at_place os place target (omega arith)

pub rule_is : (case : Case) (lines : List Line) (t : Trace) (kind : Kind) (place : ℕ) (others freqs roles : List ℕ) (target lo hi : ℕ)
    → t.counts ≡ counts_of case → target < length case.carriers → place < roles_of kind → length others + 1 ≡ roles_of kind
    → is_instance case kind (insert others place target) ≡ true → AreFixed case (left t) others freqs
    → AreBroken case kind place (insert others place target) freqs target lo hi
    → take (roles_of kind) roles ≡ insert others place target → ((i : ℕ) → roles_of kind ≤ i → get_or roles i 0 ≡ 0)
    → IsJustified case lines t.entries (record { carrier = target; lo = lo; hi = hi; hint = Some (Rule kind roles place lo hi) })
rule_is case lines t kind place others freqs roles target lo hi counts known low size good fixed broken is zeros =
    let box : Box = has_of (counts_of case) t.entries in
    let carrier : get_or roles place 0 ≡ target = sym (get_or-take (roles_of kind) roles place 0 low) ∙ ap (λ xs. get_or xs place 0) is ∙ at_place others place target (omega arith) in
    let fixed' : AreFixed case box others freqs = subst (λ (ns : List ℕ). AreFixed case (has_of ns t.entries) others freqs) counts fixed in
    let out : is_ruled_out case box kind (insert others place target) target lo hi ≡ true =
    ruled_out case box kind others freqs place target lo hi good fixed' (λ k small inside.
    breaks_if case box kind others freqs place target k fixed' (apart_of case kind others place target good) (broken.inside k inside)) in
    let out' : is_ruled_out case box kind (take (roles_of kind) roles) (get_or roles place 0) lo hi ≡ true = rw (is, carrier) out in record {
      hint = Rule kind roles place lo hi;
      is = refl;
      after = without box (get_or roles place 0) (between lo hi);
      works = if_true _ _ out';
      gone = λ k inside. rw carrier (without_gone box target (between lo hi) k inside);
      own = (carrier, refl, refl, low, zeros);
      ordered = broken.ordered;
      in_range = omega (arith, broken.known, count_at case target 0 known);
    }

pub rule_step : {A E : Type 0} (case : Case) (lines : List Line) (old new : Trace) (target lo hi : ℕ) (hint : Hint)
    → IsJustified case lines old.entries (record { carrier = target; lo = lo; hi = hi; hint = Some hint })
    → (r : Result A E) → OnOk r (new ≡ struck old target lo hi hint) → OnErr r (new ≡ old) → Extends case lines old.entries new.entries
rule_step case lines old new target lo hi hint why (Ok x) is none =
    subst (λ (es : List Entry). Extends case lines old.entries es) (sym (ap (λ t. t.entries) is)) (more same why)
rule_step case lines old new target lo hi hint why (Err x) none is =
    subst (λ (es : List Entry). Extends case lines old.entries es) (sym (ap (λ t. t.entries) is)) same
