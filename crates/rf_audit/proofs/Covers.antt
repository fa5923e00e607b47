-- A box that has what a round leaves goes on to have it, whatever breaks an instance and falls.
use Rattle.std.proofs.Common.{◌≡◌, ℕ, zero, suc, List, ◌∷◌, true, refl, sym, arith, subst, inl, inr, ◌⊎◌}
use Rattle.rf_terms.specs.Kinds.{kinds}
use Rattle.rf_log.specs.declared.cond.Cond.{Cond}
use Rattle.rf_log.specs.Case.{Case, is_instance, breaks}
use Rattle.rf_log.specs.Box.{Box, is_met}
use Rattle.rf_log.specs.Relations.{Meets, members, IsStruck, IsLiving, IsSole, IsWithin}
use Rattle.rf_log.specs.Closure.{Round, Closure}
use Rattle.rf_audit.specs.Left.{Covers}
use Rattle.rf_log.proofs.CaseLaws.{counts_length, known_role}

pub living-wider : (case : Case) (a b : ℕ → ℕ → Type 0) → IsWithin a b → IsLiving case a → IsLiving case b
living-wider case a b within living c known = let some = living c known in (some.0, within c some.0 some.1)

pub closure-within : (case : Case) (path : List Cond) (n : ℕ) → IsWithin (Closure case path) (Round case path n)
closure-within case path n c k all = all n

-- an index of a living narrower box, whose carrier has one index in the wider box
pub sole-narrow : (a b : ℕ → ℕ → Type 0) (c k : ℕ) → IsWithin a b → (j : ℕ) × a c j → ((j : ℕ) → b c j → j ≡ k) → IsSole a c k
sole-narrow a b c k within some only =
    let same : some.0 ≡ k = only some.0 (within c some.0 some.1) in
    (subst (λ (j : ℕ). a c j) same some.1, λ j here. only j (within c j here))

pub struck-narrow : (case : Case) (a b : ℕ → ℕ → Type 0) (c k : ℕ) → IsWithin a b → IsLiving case a → IsStruck case kinds b c k → IsStruck case kinds a c k
struck-narrow case a b c k within living struck = record {
  kind = struck.kind;
  among = struck.among;
  roles = struck.roles;
  at = struck.at;
  is_instance = struck.is_instance;
  target = struck.target;
  here = struck.here;
  others = λ r has other. sole-narrow a b r (struck.at r) within
      (living r (omega (arith, counts_length case, known_role case struck.kind struck.roles r struck.is_instance has))) (struck.others r has other).1;
  breaks = struck.breaks;
}

-- an index that each living round within the box strikes
abbrev pub IsHit : Case → List Cond → (ℕ → ℕ → Type 0) → ℕ → ℕ → Type 0
IsHit case path b c k = (n : ℕ) → IsWithin (Round case path n) b → IsLiving case (Round case path n) → IsStruck case kinds (Round case path n) c k

-- what fell is hit
pub covers-fewer : (case : Case) (path : List Cond) (old new : Box) → Covers case path old
    → ((c k : ℕ) → members old c k → (members new c k) ⊎ IsHit case path (members old) c k) → Covers case path new
covers-fewer case path old new covers fell = (
  suc covers.0,
  λ living c k here.
      let within = covers.1 living in
      let alive = living-wider case (Closure case path) (Round case path covers.0) (closure-within case path covers.0) living in
      elim (fell c k (within c k here.0)) [
        | inl kept ↦ kept
        | inr hit ↦ absurd (here.1 alive (hit covers.0 within alive))
      ],
)

-- a decision more leaves less
meets-fewer : (case : Case) (path : List Cond) (cond : Cond) (c k : ℕ) → Meets case (cond ∷ path) c k → Meets case path c k
meets-fewer case path cond c k meets = record {
  known = meets.known;
  met = λ one has of. meets.met one (suc has.0, omega (arith, has.1), has.2) of;
}

rounds-fewer : (case : Case) (path : List Cond) (cond : Cond) → IsLiving case (Closure case (cond ∷ path)) → (n : ℕ) → IsWithin (Round case (cond ∷ path) n) (Round case path n)
rounds-fewer case path cond living zero c k here = (meets-fewer case path cond c k here.0, here.1)
rounds-fewer case path cond living (suc n) c k here =
    let before = rounds-fewer case path cond living n in
    let alive = living-wider case (Closure case (cond ∷ path)) (Round case (cond ∷ path) n) (closure-within case (cond ∷ path) n) living in
    (before c k here.0, λ _ struck. here.1 alive (struck-narrow case (Round case (cond ∷ path) n) (Round case path n) c k before alive struck))

pub living-fewer : (case : Case) (path : List Cond) (cond : Cond) → IsLiving case (Closure case (cond ∷ path)) → IsLiving case (Closure case path)
living-fewer case path cond living = living-wider case (Closure case (cond ∷ path)) (Closure case path) (λ c k all n. rounds-fewer case path cond living n c k (all n)) living

starts : (case : Case) (path : List Cond) (n c k : ℕ) → Round case path n c k → Meets case path c k
starts case path zero c k here = here.0
starts case path (suc n) c k here = starts case path n c k here.0

pub covers-more : (case : Case) (path : List Cond) (cond : Cond) (old new : Box) → Covers case path old
    → ((c k : ℕ) → members old c k → (c ≡ cond.carrier → is_met cond k ≡ true) → members new c k) → Covers case (cond ∷ path) new
covers-more case path cond old new covers kept = (
  covers.0,
  λ living c k here.
      let old_here = covers.1 (living-fewer case path cond living) c k (rounds-fewer case path cond living covers.0 c k here) in
      kept c k old_here (λ is. (starts case (cond ∷ path) covers.0 c k here).met cond (0, omega arith, refl) (sym is)),
)
