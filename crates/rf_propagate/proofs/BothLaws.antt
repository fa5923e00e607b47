-- How justified removals compose, and what two propagators that are quiet on one box say together.
use Rattle.std.proofs.Common.{◌≡◌, ℕ, ◌<◌, ◌≤◌, List, ◌++◌, Bool, true, false, ◌||◌, length, refl, sym, ◌∙◌, ap, subst, inl, inr, arith, IsTrue, Contains}
use Rattle.std.proofs.lemmas.List.Elements.{Contains-append_cases}
use Rattle.std.proofs.lemmas.Bool.{and_parts}
use Rattle.rf_terms.specs.declared.kind.Kind.{Kind}
use Rattle.rf_log.specs.Case.{Case}
use Rattle.rf_log.specs.Relations.{members, IsStruck, IsSettled, IsAllowedThroughout}
use Rattle.rf_log.specs.Hints.{Line}
use Rattle.rf_trail.specs.declared.entry.Entry.{Entry}
use Rattle.rf_domain.specs.Sets.{total_of}
use Rattle.rf_trail.specs.Trace.{Trace, has_of, box_of}
use Rattle.rf_trail.proofs.TraceLaws.{same_left}
use Rattle.rf_domain.proofs.SetsLaws.{total_mono}
use Rattle.rf_propagate.specs.Laws.{Extends, same, more, IsQuiet}

pub grows_on : {case : Case} {lines : List Line} {es fs gs : List Entry}
    → Extends case lines es fs → Extends case lines fs gs → Extends case lines es gs
grows_on first same = first
grows_on first (more second why) = more (grows_on first second) why

-- what is left at the end was left before
pub left_before : {case : Case} {lines : List Line} {es fs : List Entry} (counts : List ℕ) → Extends case lines es fs
    → (c k : ℕ) → has_of counts fs c k ≡ true → has_of counts es c k ≡ true
left_before counts same c k h = h
left_before counts (more {es} {fs} {e} grown why) c k h = left_before counts grown c k (and_parts (has_of counts fs c k) _ h).0

pub fewer_left : {case : Case} {lines : List Line} {es fs : List Entry} (counts : List ℕ) → Extends case lines es fs
    → total_of counts (has_of counts fs) ≤ total_of counts (has_of counts es)
fewer_left {case} {lines} {es} {fs} counts grown = total_mono counts (has_of counts fs) (has_of counts es) (left_before counts grown) (length counts)

-- removals after which as many indices are left have removed none
pub nothing_left_out : {case : Case} {lines : List Line} {es fs : List Entry} (counts : List ℕ) → Extends case lines es fs
    → total_of counts (has_of counts fs) ≡ total_of counts (has_of counts es) → has_of counts fs ≡ has_of counts es
nothing_left_out {case} {lines} {es} {fs} counts grown e = same_left counts es fs (left_before counts grown) e

settled_both : (case : Case) (ks ls : List Kind) (b : ℕ → ℕ → Type 0) → IsSettled case ks b → IsSettled case ls b → IsSettled case (ks ++ ls) b
settled_both case ks ls b first second c k here struck =
    elim (Contains-append_cases ks ls struck.kind struck.among) [
      | inl among ↦ first c k here (again ks struck among)
      | inr among ↦ second c k here (again ls struck among)
    ]
  where
    again : (ms : List Kind) (struck : IsStruck case (ks ++ ls) b c k) → Contains ms struck.kind → IsStruck case ms b c k
    again ms struck among = record {
      kind = struck.kind;
      among = among;
      roles = struck.roles;
      at = struck.at;
      is_instance = struck.is_instance;
      target = struck.target;
      here = struck.here;
      others = struck.others;
      breaks = struck.breaks;
    }

allowed_both : (case : Case) (p q : Bool) (b : ℕ → ℕ → Type 0)
    → (IsTrue p → IsAllowedThroughout case b) → (IsTrue q → IsAllowedThroughout case b) → IsTrue (p || q) → IsAllowedThroughout case b
allowed_both case true q b first second asked = first refl
allowed_both case false q b first second asked = second asked

pub quiet_both : (case : Case) (ks ls : List Kind) (p q : Bool) (b : ℕ → ℕ → Type 0)
    → IsQuiet case ks p b → IsQuiet case ls q b → IsQuiet case (ks ++ ls) (p || q) b
quiet_both case ks ls p q b first second = record {
  living = first.living;
  settled = settled_both case ks ls b first.settled second.settled;
  allowed = allowed_both case p q b first.allowed second.allowed;
}

-- the counts stay, and justified removals are added
pub record Kept (case : Case) (lines : List Line) (before now : Trace) : Type 0 where
  pub counts : now.counts ≡ before.counts
  pub sound : Extends case lines before.entries now.entries

pub kept_on : {case : Case} {lines : List Line} {a b c : Trace} → Kept case lines a b → Kept case lines b c → Kept case lines a c
kept_on first second = record { counts = second.counts ∙ first.counts; sound = grows_on first.sound second.sound }

abbrev pub total : Trace → ℕ
total t = total_of t.counts (has_of t.counts t.entries)

-- two totals that were counted and found equal
pub counted_same : (a b : Trace) (x y : ℕ) → x ≡ total a → y ≡ total b → x ≡ y → total a ≡ total b
counted_same a b x y first second same_count = sym first ∙ same_count ∙ second

-- a round in which the second part removed an index
pub counted_less : (a b c : Trace) (x y : ℕ) → x ≡ total c → y ≡ total b → (x ≡ y → ⊥) → total c ≤ total b → total b ≤ total a → total c < total a
counted_less a b c x y first second other less fewer = omega arith

pub fewer_kept : {case : Case} {lines : List Line} {a b : Trace} → Kept case lines a b → total b ≤ total a
fewer_kept {case} {lines} {a} {b} kept =
    subst (λ (n : List ℕ). total_of n (has_of n b.entries) ≤ total a) (sym kept.counts) (fewer_left a.counts kept.sound)

pub same_kept : {case : Case} {lines : List Line} {a b : Trace} → Kept case lines a b → total b ≡ total a
    → has_of b.counts b.entries ≡ has_of a.counts a.entries
same_kept {case} {lines} {a} {b} kept e =
    ap (λ (n : List ℕ). has_of n b.entries) kept.counts
    ∙ nothing_left_out a.counts kept.sound (sym (ap (λ (n : List ℕ). total_of n (has_of n b.entries)) kept.counts) ∙ e)

-- what was quiet stays so where no index went
pub quiet_kept : {case : Case} {lines : List Line} {a b : Trace} (ks : List Kind) (p : Bool) → Kept case lines a b → total b ≡ total a
    → IsQuiet case ks p (box_of a) → IsQuiet case ks p (box_of b)
quiet_kept {case} {lines} {a} {b} ks p kept e quiet =
    subst (λ (has : ℕ → ℕ → Bool). IsQuiet case ks p (members has)) (sym (same_kept kept e)) quiet

-- equal parts make equal wholes
pub joined : {A B C : Type 0} (f : A → B → C) {a c : A} {b d : B} → a ≡ c → b ≡ d → f a b ≡ f c d
joined f {a} {c} {b} {d} first second = ap (λ x. f x b) first ∙ ap (f c) second
