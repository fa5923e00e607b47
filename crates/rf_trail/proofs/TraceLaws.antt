-- What the entries of a trail leave.
use Rattle.std.proofs.Common.{◌≡◌, ℕ, ◌-◌, ◌<◌, ◌≤◌, List, [], ◌∷◌, ◌++◌, true, false, length, take, drop, reverse, sym, ◌∙◌, ap, arith, inl, inr}
use Rattle.std.proofs.lemmas.List.{reverse-append, length-reverse, take-append-drop, length-drop, get_or_past}
use Rattle.std.proofs.lemmas.Bool.{and_parts, ltb-true, cases_Bool, cases_lt}
use Rattle.std.proofs.Math.Seq.{drop-append_seam}
use Rattle.std.proofs.Math.Path.{fun_ext}
use Rattle.rf_domain.proofs.SetsLaws.{total_same}
use Rattle.rf_domain.specs.Sets.{size_of, total_of}
use Rattle.rf_trail.specs.declared.entry.Entry.{Entry}
use Rattle.rf_trail.specs.Trace.{has_of}

-- only indices below a carrier's count are left
pub has_size : (counts : List ℕ) (es : List Entry) (c k : ℕ) → has_of counts es c k ≡ true → k < size_of counts c
has_size counts [] c k h = ltb-true k (size_of counts c) h
has_size counts (e ∷ es) c k h = has_size counts es c k (and_parts (has_of counts es c k) _ h).0

pub reverse-take-drop : {A : Type 0} → (items : List A) (n : ℕ) → n ≤ length items
    → reverse (take n items) ≡ drop (length items - n) (reverse items)
reverse-take-drop items n h =
    let parts : reverse items ≡ reverse (drop n items) ++ reverse (take n items) =
    ap reverse (sym (take-append-drop n items)) ∙ reverse-append (take n items) (drop n items) in
    let past : length items - n ≡ length (reverse (drop n items)) =
    omega (arith, length-reverse (drop n items), length-drop n items) in
    sym (ap (λ m. drop m (reverse items)) past ∙ ap (drop (length (reverse (drop n items)))) parts
    ∙ drop-append_seam (reverse (drop n items)) (reverse (take n items)))

size_past : (counts : List ℕ) (c : ℕ) → length counts ≤ c → size_of counts c ≡ 0
size_past counts c past = get_or_past counts c 0 past

-- two trails, of which one has fewer indices left carrier by carrier and as many in all, leave the same
pub same_left : (counts : List ℕ) (es fs : List Entry)
    → ((c k : ℕ) → has_of counts fs c k ≡ true → has_of counts es c k ≡ true)
    → total_of counts (has_of counts fs) ≡ total_of counts (has_of counts es)
    → has_of counts fs ≡ has_of counts es
same_left counts es fs within e = fun_ext λ c. fun_ext λ k. at_one c k
  where
    gone : (es : List Entry) (c k : ℕ) → size_of counts c ≤ k → has_of counts es c k ≡ false
    gone es c k h = elim (cases_Bool (has_of counts es c k)) [ inl left ↦ absurd (omega (arith, has_size counts es c k left)) | inr gone_here ↦ gone_here ]

    inside : (c k : ℕ) → k < size_of counts c → has_of counts fs c k ≡ has_of counts es c k
    inside c k h = elim (cases_lt c (length counts)) [
      | inr past ↦ absurd (omega (arith, size_past counts c past))
      | inl known ↦ total_same counts (has_of counts fs) (has_of counts es) within (length counts) e c k known h
    ]

    at_one : (c k : ℕ) → has_of counts fs c k ≡ has_of counts es c k
    at_one c k = elim (cases_lt k (size_of counts c)) [
      | inr past ↦ gone fs c k past ∙ sym (gone es c k past)
      | inl known ↦ inside c k known
    ]
