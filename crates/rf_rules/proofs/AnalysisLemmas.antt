-- Lemmas on the parts of an analysis.
use Rattle.std.proofs.Common.{◌≡◌, ◌≤◌, ◌<◌, ◌+◌, ◌*◌, ◌^◌, ℕ, Bool, true, false, List, [], ◌∷◌, ◌++◌, ◌-◌, map, length, refl, ap, sym, ◌∙◌, arith, add-one}
use Rattle.std.specs.Prelude.{Option, ◌==◌, filter}
use Rattle.std.specs.List.{flat_map, list_all}
use Rattle.std.proofs.lemmas.List.{append-nil, append_assoc, length-append, length-map, map-append}
use Rattle.std.proofs.lemmas.List.Elements.{filter-append}
use Rattle.rf_terms.specs.Kinds.{kinds}
use Rattle.rf_terms.specs.declared.kind.Kind.{Kind}
use Rattle.rf_show.specs.Limits.{most_carriers}
use Rattle.rf_show.specs.Show.{ShowData}
use Rattle.rf_rules.specs.Tuples.{upto}
use Rattle.rf_rules.specs.Instances.{at_in, ats_of, is_broken}
use Rattle.rf_rules.specs.Conflicts.{conflict_of}
use Rattle.rf_rules.specs.declared.analysis.Analysis.{Analysis}
use Rattle.rf_rules.specs.declared.conflict.Conflict.{Conflict}
use Rattle.rf_rules.specs.Tallies.{Extends, IsEmpty, shown_of}
use Rattle.rf_rules.specs.Analyses.{analysed, analysis, banned_carriers, conflicts_of, is_off_grid, off_grid, stands_banned}
use Rattle.rf_rules.specs.Searches.{lane_of}
use Rattle.rf_rules.specs.declared.conflict.Conflict.TheVariants.{Banned, OffGrid}
use Rattle.rf_rules.specs.declared.lane.Lane.{Lane}
use Rattle.rf_rules.proofs.TupleLaws.{filter-few, length-upto, upto-suc, upto-zero}
use Rattle.rf_rules.proofs.CountLemmas.{passed-few}
use Rattle.rf_rules.proofs.TallyLemmas.{both-more, nothing, same-more, whole}
use Rattle.rf_rules.specs.declared.tally.Tally.{Tally}
use Rattle.rf_rules.proofs.FormLemmas.{nothing-asked}
use Rattle.rf_rules.proofs.SearchLemmas.{broken-far}

-- ---- the carriers that pass a test

passed-suc : {Y : Type 0} (f : ℕ → Y) (p : ℕ → Bool) (i : ℕ) → map f (filter p (upto (i + 1))) ≡ map f (filter p (upto i)) ++ map f (filter p (i ∷ []))
passed-suc f p i =
    ap (λ j. map f (filter p (upto j))) (add-one i) ∙ ap (λ xs. map f (filter p xs)) (upto-suc i) ∙ ap (map f) (filter-append p (upto i) (i ∷ [])) ∙
    map-append f (filter p (upto i)) (filter p (i ∷ []))

pub pass-none : (f : ℕ → Conflict) (p : ℕ → Bool) (a : Tally) → Extends a a (map f (filter p (upto 0)))
pass-none f p a = nothing a _ (ap (λ xs. map f (filter p xs)) upto-zero)

pub pass-over : (f : ℕ → Conflict) (p : ℕ → Bool) (i : ℕ) (a b : Tally) → p i ≡ false → Extends a b (map f (filter p (upto i))) → Extends a b (map f (filter p (upto (i + 1))))
pass-over f p i a b h x =
    let none : map f (filter p (i ∷ [])) ≡ [] = rw h refl in
    same-more a b _ _ (sym (passed-suc f p i ∙ ap (λ zs. map f (filter p (upto i)) ++ zs) none ∙ append-nil (map f (filter p (upto i))))) x

pub pass-on : (f : ℕ → Conflict) (p : ℕ → Bool) (i : ℕ) (a b c : Tally) → p i ≡ true → Extends a b (map f (filter p (upto i))) → Extends b c (f i ∷ []) →
    Extends a c (map f (filter p (upto (i + 1))))
pass-on f p i a b c h x y =
    let one : map f (filter p (i ∷ [])) ≡ f i ∷ [] = rw h refl in
    same-more a c _ _ (sym (passed-suc f p i ∙ ap (λ zs. map f (filter p (upto i)) ++ zs) one)) (both-more a b c _ _ x y)

-- ---- kinds

-- a kind of which no carrier asks anything has no broken instance
pub idle : (show : ShowData) (ats : List (Option ℕ)) (kind : Kind) (t : List ℕ) → length ats ≡ length show.carriers →
    list_all (λ (l : Lane). l.needs == 0) (map (lane_of show ats kind) (upto (length ats))) ≡ true → is_broken show ats kind t ≡ false
idle show ats kind t n h = broken-far show ats kind t (omega (arith, nothing-asked show ats kind t n h))

-- ---- how many there are

parts-few : (show : ShowData) (ats : List (Option ℕ)) (some : List Kind) → length ats ≤ most_carriers → length (flat_map (conflicts_of show ats) some) ≤ length some * most_carriers ^ 4
parts-few show ats [] h = omega arith
parts-few show ats (kind ∷ some) h =
    let own = passed-few (conflict_of show ats kind) (is_broken show ats kind) kind (length ats) h in
    omega (arith, length-append (conflicts_of show ats kind) (flat_map (conflicts_of show ats) some), own, parts-few show ats some h)

carriers-few : (f : ℕ → Conflict) (p : ℕ → Bool) (n : ℕ) → n ≤ most_carriers → length (map f (filter p (upto n))) ≤ most_carriers
carriers-few f p n h = omega (arith, length-map (filter p (upto n)) f, filter-few p (upto n), length-upto n, h)

analysis-few : (show : ShowData) → length show.carriers ≤ most_carriers → length (analysis show) < 2 ^ 64 - 1
analysis-few show h =
    let ats = ats_of show in
    let n : length ats ≤ most_carriers = omega (arith, length-map show.carriers (λ c. c.at), h) in
    let off : length (off_grid show) ≤ most_carriers = carriers-few (λ c. OffGrid c) (λ c. is_off_grid show c (at_in ats c)) (length show.carriers) h in
    let banned : length (banned_carriers show) ≤ most_carriers = carriers-few (λ c. Banned c) (λ c. stands_banned show c (at_in ats c)) (length show.carriers) h in
    omega (
      arith,
      length-append (off_grid show) (banned_carriers show ++ flat_map (conflicts_of show ats) kinds),
      length-append (banned_carriers show) (flat_map (conflicts_of show ats) kinds),
      off,
      banned,
      parts-few show ats kinds n,
    )

-- an analysis that is made in three parts
pub analysed-from : (show : ShowData) (rest shown : List Conflict) (a b c : Tally) → IsEmpty a → Extends a b (off_grid show ++ banned_carriers show) → Extends b c rest →
    off_grid show ++ (banned_carriers show ++ rest) ≡ analysis show → length show.carriers ≤ most_carriers → shown ≡ c.shown.items →
    ◌≡◌ {A = Analysis} (record { shown = shown; total = c.total }) (analysed show)
analysed-from show rest shown a b c none front tail e few same =
    let all = same-more a c _ _ (append_assoc (off_grid show) (banned_carriers show) rest ∙ e) (both-more a b c _ rest front tail) in
    let w = whole a c (analysis show) none all (analysis-few show few) in
    let front : shown ≡ shown_of (analysis show) = same ∙ w.shown in
    let count : c.total ≡ length (analysis show) = w.total in
    cc (front, count)
