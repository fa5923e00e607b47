-- Lemmas on the search for what a newcomer breaks.
use Rattle.std.proofs.Common.{◌+◌, ◌≡◌, ◌<◌, ◌≤◌, ◌↔◌, ◌≤ℤ◌, ℕ, ℤ, pos, zero, suc, Bool, true, false, ◌||◌, ◌&&◌, List, [], ◌∷◌, ◌++◌, length, refl, ap, sym, ◌∙◌, arith, inl, inr, IfNone}
use Rattle.std.proofs.Common.{IfSome, Option, Some, None, nat_le, nat_lt, leb-true, le-leb, lt-ltb, ltb-true, append-nil, append_assoc}
use Rattle.std.specs.List.{list_any}
use Rattle.std.proofs.lemmas.Bool.{cases_lt, and_from, and_parts}
use Rattle.rf_terms.specs.Windows.{Breaks, IsWindow}
use Rattle.rf_terms.specs.declared.kind.Kind.{Kind}
use Rattle.rf_rules.specs.Tuples.{tuples, upto}
use Rattle.rf_spares.specs.Harms.{Site, admits, harm, harms_from, margin_at, wants}
use Rattle.rf_rules.specs.Instances.{khzs_in}
use Rattle.rf_spares.proofs.ListLemmas.{any-plus}
use Rattle.rf_spares.specs.Markings.{Gains, is_marked}
use Rattle.rf_spares.specs.declared.marks.Marks.{Marks}
use mathlib.Core.Bool.{and-false, or-false, and-true}
use Rattle.rf_base.proofs.ListLaws.{any_same}
use Rattle.rf_base.proofs.BoolLaws.{same_test}
use Rattle.rf_rules.proofs.TupleLaws.{any-suc, any-first, any-empty}

-- ---- marks that are gained

pub gains-none : (a : Marks) (p : ℕ → Bool) → ((f : ℕ) → p f ≡ false) → Gains a a p
gains-none a p h = record { low = refl; size = refl; marks = λ f few spans. sym (ap (λ b. is_marked a f || b) (h f) ∙ or-false (is_marked a f)) }

pub gains-as : (a b : Marks) (p q : ℕ → Bool) → ((f : ℕ) → f ≤ 10000000 → p f ≡ q f) → Gains a b p → Gains a b q
gains-as a b p q h g = record { low = g.low; size = g.size; marks = λ f few spans. g.marks f few spans ∙ ap (λ x. is_marked a f || x) (h f few) }

gains-then : (a b c : Marks) (p q : ℕ → Bool) → Gains a b p → Gains b c q → Gains a c (λ f. p f || q f)
gains-then a b c p q g h = record {
  low = h.low ∙ g.low;
  size = h.size ∙ g.size;
  marks = λ f few spans.
      h.marks f few (omega (arith, spans.0, g.low), omega (arith, spans.1, g.low, g.size))
      ∙ grind (arith, g.marks f few spans);
}

-- one number more
pub gains-next : (a b c : Marks) (q : ℕ → ℕ → Bool) (p : ℕ → Bool) (k : ℕ) → Gains a b (λ f. list_any (q f) (upto k)) → Gains b c p → ((f : ℕ) → p f ≡ q f k)
    → Gains a c (λ f. list_any (q f) (upto (k + 1)))
gains-next a b c q p k old new same =
    gains-as a c _ _ (λ f few. ap (λ x. list_any (q f) (upto k) || x) (same f) ∙ sym (any-plus (q f) k)) (gains-then a b c (λ f. list_any (q f) (upto k)) p old new)

-- ---- numbers below n

-- those from m on don't pass
pub any-front : (q : ℕ → Bool) (m n : ℕ) → m ≤ n → ((i : ℕ) → m ≤ i → i < n → q i ≡ false) → list_any q (upto m) ≡ list_any q (upto n)
any-front q m zero le h = ap (λ k. list_any q (upto k)) (omega (arith, le))
any-front q m (suc n) le h =
    elim (cases_lt m (suc n)) [
      | inl low ↦
          let last = h n (omega (arith, low)) (omega arith) in
          rw (any-suc q n, last, or-false) (any-front q m n (omega (arith, low)) (λ i a b. h i a (omega (arith, b))))
      | inr high ↦ ap (λ k. list_any q (upto k)) (omega (arith, le, high))
    ]

-- ---- others by others

pub harms-last : (s : Site) (ats : List (Option ℕ)) (must : Option ℕ) (kind : Kind) (role : ℕ) (t : List ℕ) (k f : ℕ)
    → k ≡ 0 → harms_from s ats must kind role t k f ≡ (wants must t && harm s ats kind role t f)
harms-last s ats must kind role t k f e = rw (e, any-empty (λ u. wants must (t ++ u) && harm s ats kind role (t ++ u) f) (upto (length ats)), append-nil t) refl

pub harms-next : (s : Site) (ats : List (Option ℕ)) (must : Option ℕ) (kind : Kind) (role : ℕ) (t : List ℕ) (k j f : ℕ) → suc k ≡ j
    → list_any (λ c. harms_from s ats must kind role (t ++ c ∷ []) k f) (upto (length ats)) ≡ harms_from s ats must kind role t j f
harms-next s ats must kind role t k j f e =
    let p : List ℕ → Bool = λ u. wants must u && harm s ats kind role u f in
    any_same _ _ (upto (length ats)) (λ c. any_same _ _ (tuples k (upto (length ats))) (λ u. ap p (append_assoc t (c ∷ []) u)))
    ∙ sym (any-first (λ u. p (t ++ u)) k (upto (length ats))) ∙ ap (λ i. harms_from s ats must kind role t i f) e

-- ---- windows

pub harm-not : (s : Site) (ats : List (Option ℕ)) (kind : Kind) (role : ℕ) (u : List ℕ) (w : Bool) (f : ℕ) → admits s ats kind role u ≡ false → (w && harm s ats kind role u f) ≡ false
unfolding harm
harm-not s ats kind role u w f h = rw h (rw and-false (and-false w))

-- an interval that has the frequencies of a window
pub record HasEnds (near : Option (ℤ × ℤ)) (lo hi : ℕ) : Type 0 where
  pub none : IfNone near (hi ≡ 0)
  pub some : IfSome near (λ w. ((f : ℕ) → f ≤ 10000000 → (w.0 ≤ℤ pos f) ↔ (lo ≤ f)) × ((f : ℕ) → f ≤ 10000000 → (pos f ≤ℤ w.1) ↔ (f < hi)))

in-window : (P : ℤ → Type 0) (near : Option (ℤ × ℤ)) (lo hi f : ℕ) → IsWindow P near → HasEnds near lo hi → f ≤ 10000000 → P (pos f) ↔ ((lo ≤ f) × (f < hi))
in-window P None lo hi f is ends few = (λ p. absurd (is (pos f) p), λ h. absurd (omega (arith, h.1, ends.none)))
in-window P (Some w) lo hi f is ends few =
    let both = (is.1) (pos f) in
    let low = ends.some.0 f few in
    let high = ends.some.1 f few in
    (λ p. let q = both.0 p in (low.0 q.0, high.0 q.1), λ h. both.1 (low.1 h.0, high.1 h.1))

pub harm-window : (s : Site) (ats : List (Option ℕ)) (must : Option ℕ) (kind : Kind) (role : ℕ) (u others : List ℕ) (margin : ℕ) (near : Option (ℤ × ℤ)) (lo hi f : ℕ)
    → wants must u ≡ true → admits s ats kind role u ≡ true → others ≡ khzs_in ats u → margin ≡ margin_at s kind role u
    → IsWindow (Breaks kind role others margin) near → HasEnds near lo hi → f ≤ 10000000
    → (nat_le lo f && nat_lt f hi) ≡ (wants must u && harm s ats kind role u f)
unfolding harm
harm-window s ats must kind role u others margin near lo hi f wanted admitted e m is ends few =
    let way = in-window (Breaks kind role others margin) near lo hi f is ends few in
    rw (wanted, admitted, and-true, ← e, ← m) (same_test _ _
    (λ h. let both = and_parts (nat_le lo f) (nat_lt f hi) h in lt-ltb _ margin (way.1 (leb-true lo f both.0, ltb-true f hi both.1)))
    (λ h. let both = way.0 (ltb-true _ margin h) in and_from (nat_le lo f) (nat_lt f hi) (le-leb lo f both.0) (lt-ltb f hi both.1)))
