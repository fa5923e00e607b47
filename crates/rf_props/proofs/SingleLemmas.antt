-- Carriers with one index.
use Rattle.std.proofs.Common.{◌≡◌, ◌∙◌, ℕ, suc, ◌+◌, ◌<◌, ◌≤◌, Bool, true, false, List, [], ◌∷◌, ◌++◌, length, map, take, get_or, set, add-zero, refl, sym, ap, subst, arith}
use Rattle.std.specs.Prelude.{Option, Some, None, is_some}
use Rattle.std.specs.Option.{unwrap_or}
use Rattle.std.proofs.Math.ListN.{length-set}
use Rattle.std.proofs.lemmas.Bool.{and_from, le-leb}
use Rattle.std.proofs.lemmas.Bool.Decides.{nat_tests}
use Rattle.std.proofs.lemmas.List.{take_more, take_more_set, map-append}
use Rattle.std.proofs.lemmas.List.Folds.{list_all_more, list_all_at}
use Rattle.std.proofs.lemmas.List.Elements.{All-push}
use Rattle.rf_terms.specs.Forms.{AreFrequencies}
use Rattle.rf_log.specs.Case.{Case, count_of, counts_of, freq_of}
use Rattle.rf_log.specs.Box.{Box, only_index}
use Rattle.rf_domain.specs.Indices.{IsOnly, count_below}
use Rattle.rf_domain.specs.Sets.{has, sizes, size_of}
use Rattle.rf_trail.specs.Trace.{Trace}
use Rattle.rf_props.specs.Sweeps.{left, has_at_most_one, sole_freq, IsSingle, HasMany, AreSingle, HaveMany}
use Rattle.rf_propagate.proofs.LineLaws.{low_of}
use Rattle.rf_log.proofs.BoxLaws.{only_below-is, only_below-from, only_below-sound}

-- the one index of a set, in the words of a case
pub single_of : (case : Case) (sets : List (List Bool)) (c k : ℕ) → sizes sets ≡ counts_of case → IsOnly (get_or sets c []) k
    → (only_index case (has sets) c ≡ Some k) × (k < count_of case c)
single_of case sets c k counts only =
    let low : k < count_of case c = low_of case sets counts c k only.here in
    (only_below-from (count_of case c) (has sets c) k low only.here (λ j on. only.alone j on), low)

pub many_of : (case : Case) (sets : List (List Bool)) (c : ℕ) → sizes sets ≡ counts_of case → ((k : ℕ) → IsOnly (get_or sets c []) k → ⊥) → HasMany case (has sets) c
many_of case sets c counts none = record { many = by (only_index case (has sets) c) refl }
  where
    by : (o : Option ℕ) → only_index case (has sets) c ≡ o → is_some (only_index case (has sets) c) ≡ false
    by None e = ap is_some e
    by (Some k) e =
        let here = only_below-sound (count_of case c) (has sets c) k e in
        absurd (none k (record {
          here = here.1;
          alone = λ j on. only_below-is (count_of case c) (has sets c) k j e (low_of case sets counts c j on) on;
        }))

pub single_is : (case : Case) (has : Box) (c k f : ℕ) → only_index case has c ≡ Some k → f ≡ freq_of case c k → f ≤ 10000000 → IsSingle case has c f
single_is case has c k f only is small = record {
  sole = ap is_some only;
  freq = is ∙ sym (ap (λ o. freq_of case c (unwrap_or o 0)) only);
  small = small;
}

-- the first so many carriers, with their frequencies in an array
pub record SinglesUpTo (case : Case) (has : Box) (others : List ℕ) (n : ℕ) (all : List ℕ) : Type 0 where
  pub size : length all ≡ 4
  pub single : AreSingle case has (take n others) (take n all)

pub singles_more : (case : Case) (has : Box) (others : List ℕ) (n f : ℕ) (all : List ℕ) → SinglesUpTo case has others n all → n < length others → n < 4 → IsSingle case has (get_or others n 0) f
    → SinglesUpTo case has others (n + 1) (set all n f)
singles_more case has others n f all so known room one =
    let front : take (n + 1) others ≡ take n others ++ get_or others n 0 ∷ [] = take_more others n 0 known in
    let freqs : take (n + 1) (set all n f) ≡ take n all ++ f ∷ [] = take_more_set all n f (omega (arith, so.size)) in record {
      size = length-set all n f ∙ so.size;
      single = record {
        fixed = record {
          sole = list_all_more (λ c. is_some (only_index case has c)) others n 0 known ∙ and_from _ _ so.single.fixed.sole one.sole;
          known = freqs ∙ ap (λ xs. xs ++ f ∷ []) so.single.fixed.known ∙ ap (λ x. map (sole_freq case has) (take n others) ++ x ∷ []) one.freq
              ∙ sym (map-append (sole_freq case has) (take n others) (get_or others n 0 ∷ [])) ∙ sym (ap (map (sole_freq case has)) front);
        };
        small = subst AreFrequencies (sym freqs) (All-push (λ x. x ≤ 10000000) (take n all) f so.single.small one.small);
      };
    }

pub singles_none : (case : Case) (has : Box) (others : List ℕ) (n : ℕ) → n < length others → HasMany case has (get_or others n 0) → HaveMany case has others
singles_none case has others n known one = record { many = list_all_at (λ c. is_some (only_index case has c)) others n 0 known one.many }

-- the number of indices that are left to a carrier, as the sets count them
same_count : (t : Trace) (sets : List (List Bool)) (c n : ℕ) → sizes sets ≡ t.counts → has sets ≡ left t → n ≡ count_below (has sets c) (size_of (sizes sets) c)
    → n ≡ count_below (left t c) (size_of t.counts c)
same_count t sets c n same is counted = counted ∙ ap (λ f. count_below (f c) (size_of (sizes sets) c)) is ∙ ap (λ ns. count_below (left t c) (size_of ns c)) same

-- the first so many carriers, and one more, which has at most one index or has not
pub fixed_more : (t : Trace) (sets : List (List Bool)) (c n fixed : ℕ) → sizes sets ≡ t.counts → has sets ≡ left t → n ≡ count_below (has sets c) (size_of (sizes sets) c) → n ≤ 1
    → fixed ≡ count_below (has_at_most_one t) c → fixed + 1 ≡ count_below (has_at_most_one t) (c + 1)
fixed_more t sets c n fixed same is counted few so =
    let here : has_at_most_one t c ≡ true = le-leb _ _ (subst (λ (m : ℕ). m ≤ 1) (same_count t sets c n same is counted) few) in
    let e : c + 1 ≡ suc c = omega arith in
    rw (e, here) (ap (λ m. m + 1) so)

pub fixed_same : (t : Trace) (sets : List (List Bool)) (c n fixed : ℕ) → sizes sets ≡ t.counts → has sets ≡ left t → n ≡ count_below (has sets c) (size_of (sizes sets) c) → 1 < n
    → fixed ≡ count_below (has_at_most_one t) c → fixed ≡ count_below (has_at_most_one t) (c + 1)
fixed_same t sets c n fixed same is counted many so =
    let more : 1 < count_below (left t c) (size_of t.counts c) = subst (λ (m : ℕ). 1 < m) (same_count t sets c n same is counted) many in
    let here : has_at_most_one t c ≡ false = grind (arith, nat_tests) in
    let e : c + 1 ≡ suc c = omega arith in
    rw (e, here) (so ∙ sym (add-zero _))
