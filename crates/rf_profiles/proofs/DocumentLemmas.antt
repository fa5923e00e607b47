-- The names of the profiles of a table are its keys, and differ.
use Rattle.std.proofs.Common.{◌≡◌, ◌∷◌, ◌++◌, [], ℕ, true, false, List, Less, string_bytes, map, refl, sym, ap, ◌∙◌, append_assoc, append-nil, String}
use Rattle.std.proofs.lemmas.List.{map-append}
use Rattle.std.proofs.lemmas.List.Folds.{list_all-append}
use Rattle.std.proofs.lemmas.Map.Text.{is_eq-slice_cmp}
use Rattle.std.specs.List.{list_all, list_any, AllByRecursion}
use Rattle.std.specs.List.Sorted.{IsStrictlySortedBy}
use Rattle.std.specs.Map.{keys_of}
use Rattle.std.specs.Ordering.{is_eq}
use Rattle.std.specs.String.{string_cmp}
use Rattle.std.specs.declared.alloc.Global.{Global}
use Rattle.toml.proofs.Views.{Entry}
use Rattle.rf_base.specs.Name.{same_name}
use Rattle.rf_profiles.specs.Profile.{differ, is_width, profile_names, widths}
use Rattle.rf_profiles.specs.declared.profile.Profile.{Profile}

-- the keys of some entries
abbrev pub texts : List Entry → List (List ℕ)
texts es = map string_bytes (keys_of es)

-- the profiles so far have the keys of the entries that are done, and numbers in range
pub record Fits (all left : List Entry) (profiles : List Profile) : Type 0 where
  pub names : profile_names profiles ++ texts left ≡ texts all
  pub numbers : list_all (λ p. list_all is_width (widths p)) profiles ≡ true

pub Fits-more : (all es rest : List Entry) (e : Entry) (profiles : List Profile) (p : Profile) → Fits all es profiles → es ≡ e ∷ rest
    → p.name ≡ string_bytes e.0 → list_all is_width (widths p) ≡ true → Fits all rest (profiles ++ p ∷ [])
Fits-more all es rest e profiles p fits is name numbers = record {
  names = rw (map-append (λ q. q.name) profiles (p ∷ []), name, append_assoc) (rw is at fits.names);
  numbers = rw (list_all-append (λ q. list_all is_width (widths q)) profiles (p ∷ []), fits.numbers, numbers) refl;
}

-- a key is none of those above it
apart : (k : String Global) (ks : List (String Global)) → AllByRecursion (λ y. string_cmp k y ≡ Less) ks → list_any (same_name (string_bytes k)) (map string_bytes ks) ≡ false
apart k [] h = refl
apart k (y ∷ ys) h =
    let other : same_name (string_bytes k) (string_bytes y) ≡ false = sym (is_eq-slice_cmp (string_bytes k) (string_bytes y)) ∙ ap is_eq h.0 in
    rw (other, apart k ys h.1) refl

differ-sorted : (ks : List (String Global)) → IsStrictlySortedBy string_cmp ks → differ (map string_bytes ks) ≡ true
unfolding IsStrictlySortedBy
differ-sorted [] h = refl
differ-sorted (k ∷ ks) h = rw (apart k ks h.0, differ-sorted ks h.1) refl

pub Fits-end : (all : List Entry) (profiles : List Profile) → Fits all [] profiles → IsStrictlySortedBy string_cmp (keys_of all) → differ (profile_names profiles) ≡ true
Fits-end all profiles fits sorted =
    let names : profile_names profiles ≡ texts all = sym (append-nil (profile_names profiles)) ∙ fits.names in
    rw names (differ-sorted (keys_of all) sorted)
