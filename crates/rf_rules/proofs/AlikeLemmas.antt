-- Instances over carriers that no change touches are as before.
use Rattle.std.proofs.Common.{◌≡◌, ◌<◌, ◌+◌, ◌-◌, ℕ, suc, zero, true, false, List, [], ◌∷◌, ◌++◌, length, take, get_or, refl, ap, sym, ◌∙◌, arith}
use Rattle.std.specs.Prelude.{Option, replicate, ◌==◌}
use Rattle.std.proofs.lemmas.Bool.Decides.{nat_tests}
use Rattle.std.proofs.lemmas.List.{length-take-le, take_all, take_at, take_more}
use Rattle.rf_terms.specs.Kinds.{roles_of}
use Rattle.rf_terms.specs.Forms.{value_of}
use Rattle.rf_terms.specs.declared.kind.Kind.{Kind}
use Rattle.rf_terms.specs.declared.kind.Kind.TheVariants.{Spacing}
use Rattle.rf_show.specs.Show.{ShowData}
use Rattle.rf_zones.specs.Masks.{has_bit}
use Rattle.rf_show.specs.Query.{asked, margin_of}
use Rattle.rf_rules.specs.Instances.{are_assigned, ats_of, distance_of, is_broken, is_candidate, is_instance, khzs_in}
use Rattle.rf_rules.specs.Conflicts.{conflict_of, product_of, sources_of}
use Rattle.rf_rules.specs.Touched.{meets}
use Rattle.rf_rules.specs.Renewed.{Agrees, is_of, number_of, roles_in}

-- ---- carriers that are not of a mask

pub out-take : (mask n : ℕ) (t : List ℕ) → meets mask t ≡ false → meets mask (take n t) ≡ false
out-take mask zero t h = refl
out-take mask (suc n) [] h = refl
out-take mask (suc n) (c ∷ t) h = grind (arith, h, out-take mask n t)

pub out-at : (mask i : ℕ) (t : List ℕ) → i < length t → meets mask t ≡ false → has_bit mask (get_or t i 0) ≡ false
out-at mask i [] q h = absurd (omega (arith, q))
out-at mask zero (c ∷ t) q h = grind (arith, h)
out-at mask (suc i) (c ∷ t) q h = grind (arith, h, out-at mask i t (omega (arith, q)))

-- ---- what is as before

pub khzs-alike : (mask : ℕ) (old new : ShowData) (t : List ℕ) → Agrees mask old new → meets mask t ≡ false → khzs_in (ats_of old) t ≡ khzs_in (ats_of new) t
khzs-alike mask old new [] a h = refl
khzs-alike mask old new (c ∷ t) a h = grind (arith, h, a.at c, khzs-alike mask old new t a)

assigned-alike : (mask : ℕ) (old new : ShowData) (t : List ℕ) → Agrees mask old new → meets mask t ≡ false → are_assigned (ats_of old) t ≡ are_assigned (ats_of new) t
assigned-alike mask old new [] a h = refl
assigned-alike mask old new (c ∷ t) a h = grind (arith, h, a.at c, assigned-alike mask old new t a)

margin-alike : (mask : ℕ) (old new : ShowData) (kind : Kind) (t : List ℕ) → Agrees mask old new → length t ≡ roles_of kind → meets mask t ≡ false → margin_of old kind t ≡ margin_of new kind t
margin-alike mask old new Spacing t a n h =
    rw (a.asked Spacing (get_or t 0 0) (out-at mask 0 t (omega (arith, n)) h), a.asked Spacing (get_or t 1 0) (out-at mask 1 t (omega (arith, n)) h)) refl
margin-alike mask old new kind t a n h = a.asked kind (get_or t (roles_of kind - 1) 0) (out-at mask (roles_of kind - 1) t (omega (arith, n)) h)

distance-alike : (mask : ℕ) (old new : ShowData) (kind : Kind) (t : List ℕ) → Agrees mask old new → meets mask t ≡ false → distance_of (ats_of old) kind t ≡ distance_of (ats_of new) kind t
unfolding distance_of
distance-alike mask old new kind t a h = rw (khzs-alike mask old new t a h) refl

candidate-alike : (mask : ℕ) (old new : ShowData) (kind : Kind) (t : List ℕ) → Agrees mask old new → meets mask t ≡ false → is_candidate old (ats_of old) kind t ≡ is_candidate new (ats_of new) kind t
unfolding is_candidate is_instance
candidate-alike mask old new kind t a h =
    cc (assigned-alike mask old new t a h, a.joined (roles_of kind) t h)

pub broken-alike : (mask : ℕ) (old new : ShowData) (kind : Kind) (t : List ℕ) → Agrees mask old new → length t ≡ roles_of kind → meets mask t ≡ false →
    is_broken old (ats_of old) kind t ≡ is_broken new (ats_of new) kind t
unfolding is_broken
broken-alike mask old new kind t a n h =
    cc (distance-alike mask old new kind t a h, margin-alike mask old new kind t a n h, candidate-alike mask old new kind t a h)

pub conflict-alike : (mask : ℕ) (old new : ShowData) (kind : Kind) (t : List ℕ) → Agrees mask old new → length t ≡ roles_of kind → meets mask t ≡ false →
    conflict_of old (ats_of old) kind t ≡ conflict_of new (ats_of new) kind t
unfolding conflict_of
conflict-alike mask old new kind t a n h =
    let p : product_of (ats_of old) kind (sources_of t) ≡ product_of (ats_of new) kind (sources_of t) =
    ap (value_of kind) (khzs-alike mask old new (sources_of t) a (out-take mask (length t - 1) t h)) in
    cc (p, distance-alike mask old new kind t a h, margin-alike mask old new kind t a n h)

-- ---- what a conflict says of its instance

pub of-made : (show : ShowData) (ats : List (Option ℕ)) (kind other : Kind) (t : List ℕ) → is_of kind (conflict_of show ats other t) ≡ (number_of kind == number_of other)
unfolding conflict_of
of-made show ats kind Spacing t = refl
of-made show ats kind _ t = refl

pub of-own : (show : ShowData) (ats : List (Option ℕ)) (kind : Kind) (t : List ℕ) → is_of kind (conflict_of show ats kind t) ≡ true
of-own show ats kind t = of-made show ats kind kind t ∙ grind (arith, nat_tests)

two : (t : List ℕ) → length t ≡ 2 → get_or t 0 0 ∷ get_or t 1 0 ∷ [] ≡ t
two [] h = absurd (omega (arith, h))
two (a ∷ []) h = absurd (omega (arith, h))
two (a ∷ b ∷ []) h = refl
two (a ∷ b ∷ c ∷ t) h = absurd (omega (arith, h))

front-last : (t zs : List ℕ) (k : ℕ) → length t ≡ k + 1 → take k (take (length t - 1) t ++ zs) ++ get_or t (length t - 1) 0 ∷ [] ≡ t
front-last t zs k h =
    let e : length t - 1 ≡ k = omega (arith, h) in
    let n : length (take k t) ≡ k = length-take-le k t (omega (arith, h)) in
    ap (λ j. take k (take j t ++ zs) ++ get_or t j 0 ∷ []) e
    ∙ ap (λ us. us ++ get_or t k 0 ∷ []) (take_at (take k t) zs k n)
    ∙ sym (take_more t k 0 (omega (arith, h)))
    ∙ take_all (k + 1) t (omega (arith, h))

pub roles-made : (show : ShowData) (ats : List (Option ℕ)) (kind : Kind) (t : List ℕ) → length t ≡ roles_of kind → roles_in kind (conflict_of show ats kind t) ≡ t
unfolding conflict_of
roles-made show ats Spacing t n = two t n
roles-made show ats kind t n = front-last t (replicate (3 - length (sources_of t)) 0) (roles_of kind - 1) (omega (arith, n))
