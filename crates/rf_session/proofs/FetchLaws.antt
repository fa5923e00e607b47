-- What the shelf brought, one time after another.
use Rattle.std.proofs.Common.{◌≡◌, ◌≢◌, ◌≤◌, ◌+◌, ◌-◌, ◌^◌, min, ℕ, Bool, false, List, [], ◌∷◌, ◌++◌, count_by, append_assoc, Some, None, refl, sym, ◌∙◌, subst, arith, cond, append-nil}
use Rattle.std.specs.List.{list_any}
use Rattle.std.specs.Str.{bytes_eq}
use Rattle.std.proofs.lemmas.Bool.{false≢true, or_parts}
use Rattle.std.proofs.lemmas.Slice.Eq.{bytes_eq-Decides}
use Rattle.std.proofs.lemmas.List.Concat.{flat_map-append}
use Rattle.std.proofs.lemmas.List.Elements.{All-nil, All-cons, All-append}
use Rattle.std.proofs.lemmas.List.Folds.{list_any-append}
use Rattle.std.proofs.lemmas.List.Sums.{sum_by-append}
use Rattle.std.specs.declared.option.Option.{Option}
use Rattle.rf_base.specs.Shelf.{Ask, AppendsAsks}
use Rattle.rf_session.specs.Fetches.{Fetched, absent, ask_made, of_file, Got, Outside, MayCome, MayBring, MayBringWithin, asks_for, file_limit, Brought, BroughtWithin, KeptCounts, Obeyed}

pub count_by-append : {X : Type 0} (p : X → Bool) (xs ys : List X) → count_by p (xs ++ ys) ≡ count_by p xs + count_by p ys
count_by-append p xs ys = sum_by-append (λ x. cond (p x) 1 0) xs ys

-- a shelf that tells the same brings the same
pub MayBring-same : (before mid : List ℕ → Option (Option (List ℕ))) → ((name : List ℕ) → mid name ≡ before name) →
    (fetched : Fetched) → MayBring mid fetched → MayBring before fetched
MayBring-same before mid same absent may = tt
MayBring-same before mid same (of_file name got) may =
    let P : Option (Option (List ℕ)) → Type 0 = λ told. MayCome told got in subst P (same name) may

-- the counts of faults, one time after another
pub bound_then : (before mid after : ℕ) (n k : ℕ) → min (before + n) (2 ^ 64 - 1) ≤ mid → min (mid + k) (2 ^ 64 - 1) ≤ after →
    min (before + (n + k)) (2 ^ 64 - 1) ≤ after
bound_then before mid after n k first second = omega arith

pub AppendsAsks-none : (asked : Option (List Ask)) → AppendsAsks asked asked []
AppendsAsks-none None = tt
AppendsAsks-none (Some asks) = sym (append-nil asks)

-- asks, one time after another
pub AppendsAsks-then : (a b c : Option (List Ask)) (xs ys zs : List Ask) → AppendsAsks a b xs → AppendsAsks b c ys → zs ≡ xs ++ ys → AppendsAsks a c zs
AppendsAsks-then None b c xs ys zs first second joined = tt
AppendsAsks-then (Some p) None c xs ys zs first second joined = absurd first
AppendsAsks-then (Some p) (Some q) None xs ys zs first second joined = absurd second
AppendsAsks-then (Some p) (Some q) (Some r) xs ys zs first second joined = rw (second, first, joined) (append_assoc p xs ys)

pub Brought-then : (before mid after : Outside) (fs gs : List Fetched) → Brought before mid fs → Brought mid after gs → Brought before after (fs ++ gs)
Brought-then before mid after fs gs first second = record {
  told = All-append (MayBring before.file) fs gs first.told
      (λ k d low. MayBring-same before.file mid.file first.same _ (second.told k d low));
  bound = λ name. rw count_by-append (bound_then (before.faults name) (mid.faults name) (after.faults name) _ _ (first.bound name) (second.bound name));
  same = λ name. second.same name ∙ first.same name;
  asks = AppendsAsks-then before.asked mid.asked after.asked _ _ _ first.asks second.asks (flat_map-append ask_made fs gs);
}

pub BroughtWithin-none : (limit : ℕ) (o : Outside) → BroughtWithin limit o o []
BroughtWithin-none limit o = record { told = All-nil (MayBringWithin limit o.file); bound = λ name. omega arith; same = λ name. refl; asks = AppendsAsks-none o.asked }

pub Brought-none : (o : Outside) → Brought o o []
Brought-none o = BroughtWithin-none file_limit o

pub KeptCounts-then : (before mid after : Outside) (fs gs : List Fetched) → KeptCounts before mid fs → KeptCounts mid after gs → KeptCounts before after (fs ++ gs)
KeptCounts-then before mid after fs gs first second = λ name none.
    let both = or_parts (list_any (asks_for name) fs) (list_any (asks_for name) gs) (sym (list_any-append (asks_for name) fs gs) ∙ none) in
    second name both.1 ∙ first name both.0

-- a line that names no file
pub Brought-absent : (before after : Outside) → ((name : List ℕ) → after.file name ≡ before.file name) →
    ((name : List ℕ) → after.faults name ≡ before.faults name) → AppendsAsks before.asked after.asked [] → Brought before after (absent ∷ [])
Brought-absent before after files counts asks = record {
  told = All-cons (MayBring before.file) absent [] tt (All-nil (MayBring before.file));
  bound = λ name. let same : after.faults name ≡ before.faults name = counts name in omega arith;
  same = files;
  asks = asks;
}

pub other_name : (file name : List ℕ) → bytes_eq file name ≡ false → name ≢ file
other_name file name other same = false≢true (sym other ∙ (bytes_eq-Decides file name).1 (sym same))

-- the count of a file for which the one fetch asked not stayed as it was
pub KeptCounts-file : (before after : Outside) (name : List ℕ) (got : Got) → ((other : List ℕ) → other ≢ name → after.faults other ≡ before.faults other) →
    KeptCounts before after (of_file name got ∷ [])
KeptCounts-file before after name got others = λ other none. others other (other_name name other (or_parts (bytes_eq name other) false none).0)

-- a line that names no file was obeyed
pub Obeyed-absent : (step : Fetched → Type 0) (o : Outside) → step absent → Obeyed step o o
Obeyed-absent step o took = record {
  fetched = absent;
  took = took;
  brought = Brought-absent o o (λ name. refl) (λ name. refl) (AppendsAsks-none o.asked);
  kept = λ name none. refl;
}

-- a line that names a file was obeyed
pub Obeyed-file : (step : Fetched → Type 0) (before after : Outside) (name : List ℕ) (got : Got) → step (of_file name got) →
    Brought before after (of_file name got ∷ []) → ((other : List ℕ) → other ≢ name → after.faults other ≡ before.faults other) → Obeyed step before after
Obeyed-file step before after name got took brought others = record {
  fetched = of_file name got;
  took = took;
  brought = brought;
  kept = KeptCounts-file before after name got others;
}
