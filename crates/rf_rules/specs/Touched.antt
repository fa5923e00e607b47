-- The broken instances that have one of some carriers. A mask has a bit for each of these carriers.
use Rattle.std.specs.Prelude.{◌≡◌, ◌<◌, ◌≤◌, ℕ, Bool, true, ◌&&◌, ◌||◌, Option, List, filter, length, map}
use Rattle.std.specs.List.{list_any}
use Rattle.rf_terms.specs.Kinds.{roles_of}
use Rattle.rf_terms.specs.declared.kind.Kind.{Kind}
use Rattle.rf_show.specs.Show.{ShowData}
use Rattle.rf_zones.specs.Masks.{has_bit}
use Rattle.rf_show.specs.Query.{asked}
use Rattle.rf_rules.specs.Tuples.{found_in, tuples, upto}
use Rattle.rf_rules.specs.Instances.{is_broken}
use Rattle.rf_rules.specs.Conflicts.{conflict_of}
use Rattle.rf_rules.specs.Paired.{Covers, HasPairs, IsPairings, pair_value, stands}
use Rattle.rf_rules.specs.declared.conflict.Conflict.{Conflict}
use Rattle.rf_rules.specs.declared.pairings.Pairings.{Pairings}
use Rattle.rf_rules.specs.declared.search.Search.{Search}
use Rattle.rf_rules.specs.declared.touched.Touch.{Touch}

-- a list has a carrier of a mask
abbrev pub meets : ℕ → List ℕ → Bool
meets mask t = list_any (has_bit mask) t

-- a broken instance that has a carrier of a mask
unfoldable pub is_touched : ShowData → List (Option ℕ) → Kind → ℕ → List ℕ → Bool
is_touched show ats kind mask t = is_broken show ats kind t && meets mask t

-- the broken instances of a kind that have a carrier of a mask, as they are reported
abbrev pub touched_of : ShowData → List (Option ℕ) → Kind → ℕ → List Conflict
touched_of show ats kind mask =
    map (conflict_of show ats kind) (filter (is_touched show ats kind mask) (tuples (roles_of kind) (upto (length ats))))

-- ---- how they are found

-- the conflicts of the broken instances with a carrier of a mask that begin with t and go on as one of us
abbrev pub touched_in : Search → ℕ → List ℕ → List (List ℕ) → List Conflict
touched_in s mask t us = found_in (conflict_of s.show.now s.ats.now s.kind) (is_touched s.show.now s.ats.now s.kind mask) t us

-- pairs of carriers that have frequencies, with one of a mask, are covered
pub record HasTouching (p : Pairings) (s : Search) (mask : ℕ) : Type 0 where
  pub form : IsPairings p
  pub wide : (c : ℕ) → c < length s.ats.now → asked s.show.now s.kind c ≤ p.width
  pub pairs : (c d : ℕ) → c < length s.ats.now → d < length s.ats.now → (has_bit mask c || has_bit mask d) ≡ true → stands s c ≡ true → stands s d ≡ true → Covers p c (pair_value s c d)

pub record IsTouch (touch : Touch) (s : Search) : Type 0 where
  pub all : HasPairs touch.all s
  pub some : HasTouching touch.some s touch.mask
