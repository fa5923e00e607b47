-- A plan of a case is a plan of each case that asks no more.
use Rattle.std.proofs.Common.{◌≡◌, ℕ, ◌<◌, ◌≤◌, true, false, List, [], ◌∷◌, length, refl, ap, sym, subst, ◌∙◌, arith}
use Rattle.std.specs.Prelude.{All, IsTrue, nat_lt, slice_index, unsigned_abs, ◌==◌}
use Rattle.std.specs.List.{list_all}
use Rattle.std.proofs.lemmas.Bool.{eqb-true, ltb-true, ltb-false, le-ltb, and_from, and_parts}
use Rattle.rf_terms.specs.Kinds.{roles_of}
use Rattle.rf_terms.specs.Forms.{value_of}
use Rattle.rf_terms.specs.declared.kind.Kind.{Kind}
use Rattle.rf_terms.proofs.KindLaws.{two_roles, four_roles}
use Rattle.rf_log.specs.Case.{Case, IsPlan, are_distinct, are_together, carrier_of, freqs_at, is_broken, is_in_order, is_instance, margin_of}
use Rattle.rf_tighter.specs.Tighter.{IsTighter}
use Rattle.rf_base.proofs.ListLaws.{all_below}

-- ---- instances

-- what an instance is, part by part
pub record Parts (case : Case) (kind : Kind) (roles : List ℕ) : Type 0 where
  pub size : (length roles == roles_of kind) ≡ true
  pub below : list_all (λ c. nat_lt c (length case.carriers)) roles ≡ true
  pub distinct : are_distinct roles ≡ true
  pub order : is_in_order kind roles ≡ true
  pub together : are_together case roles ≡ true

pub parts_of : (case : Case) (kind : Kind) (roles : List ℕ) → IsTrue (is_instance case kind roles) → Parts case kind roles
parts_of case kind roles h =
    let four = and_parts _ _ h in
    let three = and_parts _ _ four.0 in
    let two = and_parts _ _ three.0 in
    let one = and_parts _ _ two.0 in
    record { size = one.0; below = one.1; distinct = two.1; order = three.1; together = four.1 }

pub instance_of : (case : Case) (kind : Kind) (roles : List ℕ) → Parts case kind roles → IsTrue (is_instance case kind roles)
instance_of case kind roles p = and_from _ _ (and_from _ _ (and_from _ _ (and_from _ _ p.size p.below) p.distinct) p.order) p.together

pub size_is : (case : Case) (kind : Kind) (roles : List ℕ) → Parts case kind roles → length roles ≡ roles_of kind
size_is case kind roles p = eqb-true (length roles) (roles_of kind) p.size

-- the same carriers, and the same sets of two to four of them together
pub instance-same : (a b : Case) → length a.carriers ≡ length b.carriers
    → ((roles : List ℕ) → All (λ c. c < length a.carriers) roles → are_distinct roles ≡ true → 2 ≤ length roles → length roles ≤ 4 → are_together a roles ≡ are_together b roles)
    → (kind : Kind) (roles : List ℕ) → IsTrue (is_instance a kind roles) → IsTrue (is_instance b kind roles)
instance-same a b size same kind roles h =
    let p = parts_of a kind roles h in
    let n = size_is a kind roles p in
    instance_of b kind roles
    (record {
      size = p.size;
      below = subst (λ n. list_all (λ c. nat_lt c n) roles ≡ true) size p.below;
      distinct = p.distinct;
      order = p.order;
      together =
          sym (same roles (all_below (length a.carriers) roles p.below) p.distinct (omega (arith, n, two_roles kind)) (omega (arith, n, four_roles kind)))
          ∙ p.together;
    })

-- ---- what breaks them

same_freqs : (a b : Case) → ((c : ℕ) → c < length b.carriers → (carrier_of a c).freqs ≡ (carrier_of b c).freqs) → (at : ℕ → ℕ) (roles : List ℕ)
    → list_all (λ c. nat_lt c (length b.carriers)) roles ≡ true → freqs_at a roles at ≡ freqs_at b roles at
same_freqs a b same at [] h = refl
same_freqs a b same at (c ∷ cs) h =
    let parts = and_parts (nat_lt c (length b.carriers)) _ h in
    ap (λ fs. slice_index fs (at c) ∷ freqs_at a cs at) (same c (ltb-true c (length b.carriers) parts.0))
    ∙ ap (λ xs. slice_index (carrier_of b c).freqs (at c) ∷ xs) (same_freqs a b same at cs parts.1)

kept_less : (kind : Kind) (freqs : List ℕ) (less more : ℕ) → less ≤ more → is_broken kind freqs more ≡ false → is_broken kind freqs less ≡ false
kept_less kind freqs less more low h =
    let far : more ≤ unsigned_abs (value_of kind freqs) = ltb-false (unsigned_abs (value_of kind freqs)) more h in
    le-ltb (unsigned_abs (value_of kind freqs)) less (omega (arith, low, far))

pub tighter-plan : (a b : Case) (plan : List ℕ) → IsTighter a b → IsPlan b plan → IsPlan a plan
tighter-plan a b plan tight is = record {
  full = is.full ∙ sym tight.carriers;
  known = λ c low. subst (λ (fs : List ℕ). slice_index plan c < length fs) (sym (tight.freqs c (below c low))) (is.known c low);
  allowed = λ c low. tight.allowed c (slice_index plan c) (below c low) (is.allowed c low);
  kept = λ kind roles h.
      let there = tight.instances kind roles h in
      ap (λ fs. is_broken kind fs (margin_of a kind roles)) (same_freqs a b tight.freqs (slice_index plan) roles (parts_of b kind roles there).below)
      ∙ kept_less kind (freqs_at b roles (slice_index plan)) (margin_of a kind roles) (margin_of b kind roles) (tight.margins kind roles there) (is.kept kind roles there);
}
  where
    below : (c : ℕ) → c < length plan → c < length b.carriers
    below c low = omega (arith, low, is.full)
