-- An analysis is that of before without what a change touches, and what the change makes, in one order.
use Rattle.std.proofs.Common.{◌≡◌, ℕ, Bool, false, List, [], ◌∷◌, ◌++◌, map, length, refl, ap, sym, ◌∙◌, arith, filter, nat_lt, not, ◌&&◌, ◌||◌, ◌==◌, append-nil}
use Rattle.std.specs.List.{flat_map}
use Rattle.std.proofs.lemmas.List.{length-map}
use Rattle.std.proofs.lemmas.List.Elements.{filter-append}
use Rattle.rf_terms.specs.Kinds.{kinds, roles_of}
use Rattle.rf_terms.specs.declared.kind.Kind.{Kind}
use Rattle.rf_terms.specs.declared.kind.Kind.TheVariants.{Spacing}
use Rattle.rf_zones.specs.Masks.{has_bit}
use Rattle.rf_show.specs.Show.{ShowData}
use Rattle.rf_rules.specs.Tuples.{tuples, upto}
use Rattle.rf_rules.specs.Instances.{ats_of, is_broken}
use Rattle.rf_rules.specs.Conflicts.{conflict_of}
use Rattle.rf_rules.specs.Analyses.{analysis, banned_carriers, conflicts_of, off_grid}
use Rattle.rf_rules.specs.Touched.{is_touched, meets, touched_of}
use Rattle.rf_rules.specs.declared.conflict.Conflict.{Conflict}
use Rattle.rf_rules.proofs.GroupLemmas.{filter-flat_map}
use Rattle.rf_rules.specs.Merges.{merge, stands_before}
use Rattle.rf_rules.specs.Renewed.{Agrees, AnalysisIsRenewed, is_kept, number_of, precedes, renewed_of, roles_in}
use Rattle.rf_rules.proofs.RisingLemmas.{IsRising, each-all, each-from, each-map, filter-empty, filter-made, flat-only, map-same, merge-filters, rising-along}
use Rattle.rf_rules.proofs.OrderLemmas.{tuples-long, tuples-rise}
use Rattle.rf_rules.proofs.OutsideLemmas.{tuples-same}
use Rattle.rf_rules.proofs.AlikeLemmas.{broken-alike, conflict-alike, of-made, of-own, roles-made}
use mathlib.Core.Bool.{and-false}
use Rattle.rf_base.proofs.ListLaws.{flat_same}

-- ---- of an analysis, the instances of one kind

once : (kind : Kind) → filter (λ other. number_of kind == number_of other) kinds ≡ kind ∷ []
once Spacing = refl
once _ = refl

others : (show : ShowData) (kind other : Kind) (mask : ℕ) → (number_of kind == number_of other) ≡ false → filter (is_kept kind mask) (conflicts_of show (ats_of show) other) ≡ []
others show kind other mask h =
    let ts = filter (is_broken show (ats_of show) other) (tuples (roles_of other) (upto (length (ats_of show)))) in
    filter-empty (is_kept kind mask) (conflicts_of show (ats_of show) other)
    (each-map (λ c. is_kept kind mask c ≡ false) (conflict_of show (ats_of show) other) ts
    (each-all (λ t. is_kept kind mask (conflict_of show (ats_of show) other t) ≡ false) ts
    (λ t. ap (λ b. b && not (meets mask (roles_in kind (conflict_of show (ats_of show) other t)))) (of-made show (ats_of show) kind other t ∙ h))))

kept-own : (show : ShowData) (kind : Kind) (mask : ℕ) → filter (is_kept kind mask) (analysis show) ≡ filter (is_kept kind mask) (conflicts_of show (ats_of show) kind)
kept-own show kind mask =
    let keep = is_kept kind mask in
    let each = conflicts_of show (ats_of show) in
    let g : Kind → List Conflict = λ k. filter keep (each k) in
    let off : filter keep (off_grid show) ≡ [] = filter-empty keep (off_grid show) (each-map (λ c. keep c ≡ false) _ _ (each-all _ _ (λ c. refl))) in
    let banned : filter keep (banned_carriers show) ≡ [] = filter-empty keep (banned_carriers show) (each-map (λ c. keep c ≡ false) _ _ (each-all _ _ (λ c. refl))) in
    filter-append keep (off_grid show) (banned_carriers show ++ flat_map each kinds)
    ∙ ap (λ zs. zs ++ filter keep (banned_carriers show ++ flat_map each kinds)) off
    ∙ filter-append keep (banned_carriers show) (flat_map each kinds)
    ∙ ap (λ zs. zs ++ filter keep (flat_map each kinds)) banned
    ∙ filter-flat_map keep each kinds
    ∙ flat-only g (λ other. number_of kind == number_of other) kinds
    (each-all (λ other. (number_of kind == number_of other) ≡ false → g other ≡ []) kinds (λ other h. others show kind other mask h))
    ∙ ap (flat_map g) (once kind)
    ∙ append-nil (g kind)

-- ---- one kind

kept-by : (show : ShowData) (kind : Kind) (mask : ℕ) (t : List ℕ) → length t ≡ roles_of kind → is_kept kind mask (conflict_of show (ats_of show) kind t) ≡ not (meets mask t)
kept-by show kind mask t n =
    let c = conflict_of show (ats_of show) kind t in
    ap (λ b. b && not (meets mask (roles_in kind c))) (of-own show (ats_of show) kind t) ∙ ap (λ u. not (meets mask u)) (roles-made show (ats_of show) kind t n)

kept-same : (mask : ℕ) (old new : ShowData) (kind : Kind) → Agrees mask old new →
    filter (is_kept kind mask) (conflicts_of old (ats_of old) kind) ≡
    map (conflict_of new (ats_of new) kind) (filter (λ t. is_broken new (ats_of new) kind t && not (meets mask t)) (tuples (roles_of kind) (upto (length (ats_of new)))))
kept-same mask old new kind a =
    let many : (c : ℕ) → has_bit mask c ≡ false → nat_lt c (length (ats_of old)) ≡ nat_lt c (length (ats_of new)) =
    λ c o. ap (nat_lt c) (length-map old.carriers (λ x. x.at)) ∙ a.carriers c o ∙ sym (ap (nat_lt c) (length-map new.carriers (λ x. x.at))) in
    let k = roles_of kind in
    let before = conflict_of old (ats_of old) kind in
    let now = conflict_of new (ats_of new) kind in
    let was = is_broken old (ats_of old) kind in
    let is = is_broken new (ats_of new) kind in
    let out : List ℕ → Bool = λ t. not (meets mask t) in
    let olds = tuples k (upto (length (ats_of old))) in
    let ts = tuples k (upto (length (ats_of new))) in
    filter-made (is_kept kind mask) before was out olds (each-from (λ t. length t ≡ k) _ olds (λ t h e. kept-by old kind mask t h) (tuples-long k (upto (length (ats_of old)))))
    ∙ ap (map before) (tuples-same mask (length (ats_of old)) (length (ats_of new)) (λ t. was t && out t) k many (λ t h. rw h (and-false (was t))))
    ∙ map-same before now (λ t. was t && out t) (λ t. is t && out t) ts (each-from (λ t. length t ≡ k) _ ts
    (λ t h. (grind (arith, broken-alike mask old new kind t a h), λ e. conflict-alike mask old new kind t a h (grind (arith, e))))
    (tuples-long k (upto (length (ats_of new)))))

pub renewed-kind : (mask : ℕ) (old new : ShowData) (kind : Kind) → Agrees mask old new → renewed_of mask (analysis old) new kind ≡ conflicts_of new (ats_of new) kind
unfolding is_touched
renewed-kind mask old new kind a =
    let k = roles_of kind in
    let ats = ats_of new in
    let f = conflict_of new ats kind in
    let is = is_broken new ats kind in
    let kept : List ℕ → Bool = λ t. is t && not (meets mask t) in
    let touched = is_touched new ats kind mask in
    let ts = tuples k (upto (length ats)) in
    let rise : IsRising (λ s t. precedes kind (f s) (f t)) ts =
    rising-along stands_before (λ s t. precedes kind (f s) (f t)) (λ t. length t ≡ k) ts
    (λ s t p q. sym (ap (λ u. stands_before u (roles_in kind (f t))) (roles-made new ats kind s p) ∙ ap (stands_before s) (roles-made new ats kind t q)))
    (tuples-long k (upto (length ats))) (tuples-rise k (length ats)) in
    ap (λ zs. merge (precedes kind) zs (touched_of new ats kind mask)) (kept-own old kind mask ∙ kept-same mask old new kind a)
    ∙ merge-filters (precedes kind) f kept touched ts rise (λ t. grind arith)
    ∙ map-same f f (λ t. kept t || touched t) is ts (each-all _ ts (λ t. (grind arith, λ e. refl)))

pub analysis-renewed : AnalysisIsRenewed
analysis-renewed mask old new a =
    ap (λ zs. off_grid new ++ (banned_carriers new ++ zs)) (flat_same (renewed_of mask (analysis old) new) (conflicts_of new (ats_of new)) kinds (λ kind. renewed-kind mask old new kind a))
