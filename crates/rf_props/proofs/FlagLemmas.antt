-- Flags of carriers.
use Rattle.std.proofs.Common.{◌≡◌, ◌∙◌, ℕ, zero, suc, ◌+◌, ◌<◌, ◌≤◌, Bool, true, false, List, [], ◌∷◌, ◌++◌, length, get_or, set, replicate, refl, sym, ap, subst, inl, inr, arith}
use Rattle.std.specs.Prelude.{Option, Some, None, MatchOption, is_some, All, Contains}
use Rattle.std.proofs.Math.ListN.{length-set}
use Rattle.std.proofs.lemmas.Bool.{cases_eq, cases_lt, true≢false}
use Rattle.std.proofs.lemmas.List.{get_or_past, get_or-replicate, get_or-set_same, get_or-set_other, length-replicate}
use Rattle.rf_log.specs.Case.{Case, count_of, counts_of}
use Rattle.rf_log.specs.Box.{Box, only_index}
use Rattle.std.proofs.lemmas.List.Elements.{All-push, Contains-push, Contains-append_left}
use Rattle.rf_domain.specs.Indices.{flag, IsOnly}
use Rattle.rf_domain.specs.Sets.{has, sizes}
use Rattle.rf_zones.specs.declared.mask.TheConstants.{MAX_CARRIERS}
use Rattle.rf_props.specs.Flags.{is_flagged, AreSingles, HaveFew, AreFresh}
use Rattle.rf_props.proofs.CountLemmas.{count_any}
use Rattle.rf_props.proofs.KeptLemmas.{AreSized}
use Rattle.rf_base.proofs.NumberLaws.{lt_cases}
use Rattle.rf_log.proofs.BoxLaws.{only_below-is, only_below-from, only_below-sound}

flag_below : (set : List Bool) (k : ℕ) → flag set k ≡ true → k < length set
flag_below set k here = elim (cases_lt k (length set)) [ inl low ↦ low | inr past ↦ absurd (true≢false (sym here ∙ get_or_past set k false past)) ]

size_at : (sets : List (List Bool)) (c : ℕ) → get_or (sizes sets) c 0 ≡ length (get_or sets c [])
size_at [] c = refl
size_at (s ∷ ss) zero = refl
size_at (s ∷ ss) (suc c) = size_at ss c

-- each index of sets that are the case's is one of its carrier's
pub sets_sized : (case : Case) (sets : List (List Bool)) → sizes sets ≡ counts_of case → AreSized case (has sets)
sets_sized case sets is c k here = omega (arith, flag_below (get_or sets c []) k here, size_at sets c, ap (λ ns. get_or ns c 0) is, count_any case c)

-- the first so many carriers are flagged where they have one index
pub record FlaggedUpTo (case : Case) (box : Box) (n : ℕ) (flags : List Bool) : Type 0 where
  pub size : length flags ≡ MAX_CARRIERS
  pub same : (c : ℕ) → c < n → is_flagged flags c ≡ is_some (only_index case box c)
  pub later : (c : ℕ) → n ≤ c → is_flagged flags c ≡ false

pub none_flagged : (n c : ℕ) → is_flagged (replicate n false) c ≡ false
none_flagged n c = elim (cases_lt c n) [
  | inl low ↦ get_or-replicate n c false false low
  | inr past ↦ get_or_past (replicate n false) c false (omega (arith, length-replicate n false))
]

pub flagged_start : (case : Case) (box : Box) → FlaggedUpTo case box 0 (replicate MAX_CARRIERS false)
flagged_start case box = record {
  size = length-replicate MAX_CARRIERS false;
  same = λ c none. absurd (omega arith);
  later = λ c _. none_flagged MAX_CARRIERS c;
}

lt_or : (c n : ℕ) → c < n + 1 → (c ≡ n → ⊥) → c < n
lt_or c n low other = omega arith

flagged_set : (case : Case) (sets : List (List Bool)) (n : ℕ) (b : Bool) (flags : List Bool) → n < MAX_CARRIERS → b ≡ is_some (only_index case (has sets) n)
    → FlaggedUpTo case (has sets) n flags → FlaggedUpTo case (has sets) (n + 1) (set flags n b)
flagged_set case sets n b flags room is so = record {
  size = length-set flags n b ∙ so.size;
  same = λ c low. elim (cases_eq c n) [
    | inl e ↦ ap (λ x. get_or (set flags n b) x false) e ∙ get_or-set_same flags n b false (omega (arith, so.size)) ∙ is ∙ sym (ap (λ x. is_some (only_index case (has sets) x)) e)
    | inr e ↦ get_or-set_other flags n c b false e ∙ so.same c (lt_or c n low e)
  ];
  later = λ c past. get_or-set_other flags n c b false (λ e. absurd (omega (arith, e))) ∙ so.later c (omega arith);
}

pub flagged_more : (case : Case) (sets : List (List Bool)) (n : ℕ) (flags : List Bool) (r : Option ℕ) → sizes sets ≡ counts_of case → n < MAX_CARRIERS
    → MatchOption r ((k : ℕ) → IsOnly (get_or sets n []) k → ⊥) (λ k. IsOnly (get_or sets n []) k) → FlaggedUpTo case (has sets) n flags → FlaggedUpTo case (has sets) (n + 1) (set flags n (is_some r))
flagged_more case sets n flags (Some k) is room only so = flagged_set case sets n true flags room (sym (ap is_some found)) so
  where
    found : only_index case (has sets) n ≡ Some k
    found = only_below-from (count_of case n) (has sets n) k (sets_sized case sets is n k only.here) only.here only.alone
flagged_more case sets n flags None is room none so = flagged_set case sets n false flags room (sym (off (only_index case (has sets) n) refl)) so
  where
    off : (o : Option ℕ) → only_index case (has sets) n ≡ o → is_some (only_index case (has sets) n) ≡ false
    off None e = ap is_some e
    off (Some k) e =
        let here = only_below-sound (count_of case n) (has sets n) k e in
        absurd (none k (record { here = here.1; alone = λ j on. only_below-is (count_of case n) (has sets n) k j e (sets_sized case sets is n j on) on }))

-- a carrier that is flagged as single has at most one index
pub few_of_singles : (case : Case) (box : Box) (flags : List Bool) → AreSized case box → AreSingles case box flags → HaveFew box flags
few_of_singles case box flags sized singles = record { each = λ c j k on here there. by c j k here there (only_index case box c) refl (singles.one c on) }
  where
    by : (c j k : ℕ) → box c j ≡ true → box c k ≡ true → (o : Option ℕ) → only_index case box c ≡ o → is_some (only_index case box c) ≡ true → j ≡ k
    by c j k here there None e some = absurd (true≢false (sym some ∙ ap is_some e))
    by c j k here there (Some i) e some =
        only_below-is (count_of case c) (box c) i j e (sized c j here) here ∙ sym (only_below-is (count_of case c) (box c) i k e (sized c k there) there)

-- of the first so many carriers, those that have the first flag have the second
pub record WithinUpTo (flags others : List Bool) (n : ℕ) : Type 0 where
  pub each : (c : ℕ) → c < n → is_flagged flags c ≡ true → is_flagged others c ≡ true

-- those of the first so many carriers that are single and not known
pub record FreshUpTo (n : ℕ) (single known : List Bool) (upto : ℕ) (fresh : List ℕ) : Type 0 where
  pub there : All (λ c. c < n) fresh
  pub all : (c : ℕ) → c < upto → is_flagged single c ≡ true → is_flagged known c ≡ false → Contains fresh c

pub fresh_start : (n : ℕ) (single known : List Bool) → FreshUpTo n single known 0 []
fresh_start n single known = record { there = λ i d none. absurd (omega arith); all = λ c none. absurd (omega arith) }

pub fresh_more : {n : ℕ} {single known : List Bool} {i : ℕ} {fresh : List ℕ} → FreshUpTo n single known i fresh → i < n → FreshUpTo n single known (i + 1) (fresh ++ i ∷ [])
fresh_more {n} {single} {known} {i} {fresh} so room = record {
  there = All-push (λ c. c < n) fresh i so.there room;
  all = λ c low on off. elim (lt_cases c i (omega arith)) [
    | inl earlier ↦ Contains-append_left fresh (i ∷ []) c (so.all c earlier on off)
    | inr last ↦ subst (Contains (fresh ++ i ∷ [])) (sym last) (Contains-push fresh i)
  ];
}

pub fresh_all : {n : ℕ} {single known : List Bool} {upto : ℕ} {fresh : List ℕ} → FreshUpTo n single known upto fresh → n ≤ upto → AreFresh n single known fresh
fresh_all so all = record { there = so.there; all = λ c low. so.all c (omega (arith, low, all)) }
