-- What a sweep over the instances of a kind leaves.
use Rattle.std.specs.Prelude.{if◌then◌else◌, ◌≡◌, ℕ, ◌+◌, ◌-◌, ◌<◌, ◌≤◌, ℤ, pos, List, ◌++◌, Bool, true, false, nat_le, insert, length, map, is_some, [], Contains}
use Rattle.std.specs.List.{list_all}
use Rattle.std.specs.Option.{unwrap_or}
use Rattle.rf_terms.specs.declared.kind.Kind.{Kind}
use Rattle.rf_terms.specs.Kinds.{has_victim, roles_of}
use Rattle.rf_terms.specs.Forms.{AreFrequencies}
use Rattle.rf_terms.specs.Windows.{Breaks}
use Rattle.rf_log.specs.Case.{Case, count_of, freq_of, asked_by, margin_of, is_among}
use Rattle.rf_log.specs.Box.{Box, between, only_index}
use Rattle.rf_log.specs.Hints.{is_ruled_out}
use Rattle.rf_domain.specs.Indices.{count_below}
use Rattle.rf_domain.specs.Sets.{size_of}
use Rattle.rf_trail.specs.Trace.{Trace, has_of}
use Rattle.rf_props.specs.Flags.{AreFlagged, HaveFew}
use Rattle.rf_props.specs.Ranges.{IsIn}

-- the indices that are left, as a test
abbrev pub left : Trace → Box
left t = has_of t.counts t.entries

-- the frequency of a carrier's one index
abbrev pub sole_freq : Case → Box → ℕ → ℕ
sole_freq case has c = freq_of case c (unwrap_or (only_index case has c) 0)

-- each of these carriers has one index, and these are their frequencies
pub record AreFixed (case : Case) (has : Box) (others freqs : List ℕ) : Type 0 where
  pub sole : list_all (λ c. is_some (only_index case has c)) others ≡ true
  pub known : freqs ≡ map (sole_freq case has) others

-- no index that is left to the target breaks the instance
pub record IsClear (case : Case) (has : Box) (kind : Kind) (roles : List ℕ) (target : ℕ) : Type 0 where
  pub each : (k : ℕ) → has target k ≡ true → is_ruled_out case has kind roles target k k ≡ false

-- no carrier has an index left that breaks an instance in which it has this role beside these others and further ones, where
-- those of them that have one index are flagged
pub record IsSwept (case : Case) (has : Box) (flags : List Bool) (kind : Kind) (place : ℕ) (first : List ℕ) : Type 0 where
  pub each : (rest : List ℕ) (c : ℕ) → length (first ++ rest) + 1 ≡ roles_of kind → AreFlagged case has flags (first ++ rest) → IsClear case has kind (insert (first ++ rest) place c) c

-- so it is in any role of the kind
pub record IsKindDone (case : Case) (has : Box) (flags : List Bool) (kind : Kind) : Type 0 where
  pub each : (place : ℕ) → place < roles_of kind → IsSwept case has flags kind place []

pub record AreKindsDone (case : Case) (has : Box) (flags : List Bool) (kinds : List Kind) : Type 0 where
  pub each : (kind : Kind) → Contains kinds kind → IsKindDone case has flags kind

-- the role that the target has in a turn: the victim's first, where there is one
abbrev pub target_role : Kind → ℕ → ℕ
target_role kind turn = if has_victim kind then roles_of kind - 1 - turn else turn

-- no carrier has an index left that breaks an instance of these kinds, whoever has one index
pub record AreAllDone (case : Case) (has : Box) (kinds : List Kind) : Type 0 where
  pub each : (kind : Kind) → Contains kinds kind → (place : ℕ) → place < roles_of kind → (others : List ℕ) (c : ℕ) → length others + 1 ≡ roles_of kind → IsClear case has kind (insert others place c) c

-- what a sweep starts from: the carriers that are flagged have at most one index, and those that are known are done
pub record IsReady (case : Case) (has : Box) (single known : List Bool) (kind : Kind) (place : ℕ) : Type 0 where
  pub few : HaveFew has single
  pub few_known : HaveFew has known
  pub done : IsSwept case has known kind place []

-- at most one index is left to the carrier
abbrev pub has_at_most_one : Trace → ℕ → Bool
has_at_most_one t c = nat_le (count_below (left t c) (size_of t.counts c)) 1

-- no carrier came to its last index
pub record NoneFixed (old new : Trace) : Type 0 where
  pub each : (c : ℕ) → has_at_most_one new c ≡ true → has_at_most_one old c ≡ true

-- the same indices are left to these carriers
pub record KeepsRows (others : List ℕ) (old new : Trace) : Type 0 where
  pub each : (o : ℕ) → is_among others o ≡ true → left new o ≡ left old o

-- no index of the target breaks the kind with these frequencies in the other roles
pub record IsHarmless (case : Case) (kind : Kind) (place : ℕ) (roles freqs : List ℕ) (target : ℕ) : Type 0 where
  pub none : (k : ℕ) → k < count_of case target → ¬ Breaks kind place freqs (margin_of case kind roles) (pos (freq_of case target k))

-- just the indices from first to last of the target do
pub record AreBroken (case : Case) (kind : Kind) (place : ℕ) (roles freqs : List ℕ) (target first last : ℕ) : Type 0 where
  pub ordered : first ≤ last
  pub known : last < count_of case target
  pub inside : (k : ℕ) → between first last k ≡ true → Breaks kind place freqs (margin_of case kind roles) (pos (freq_of case target k))
  pub all : (k : ℕ) → k < count_of case target → Breaks kind place freqs (margin_of case kind roles) (pos (freq_of case target k)) → between first last k ≡ true

-- the frequency of the carrier's one index
pub record IsSingle (case : Case) (has : Box) (c f : ℕ) : Type 0 where
  pub sole : is_some (only_index case has c) ≡ true
  pub freq : f ≡ sole_freq case has c
  pub small : f ≤ 10000000

-- the carrier has not exactly one index
pub record HasMany (case : Case) (has : Box) (c : ℕ) : Type 0 where
  pub many : is_some (only_index case has c) ≡ false

pub record AreSingle (case : Case) (has : Box) (others freqs : List ℕ) : Type 0 where
  pub fixed : AreFixed case has others freqs
  pub small : AreFrequencies freqs

-- one of the carriers has not exactly one index
pub record HaveMany (case : Case) (has : Box) (others : List ℕ) : Type 0 where
  pub many : list_all (λ c. is_some (only_index case has c)) others ≡ false

-- no carrier asks more of the kind
pub record IsReach (case : Case) (kind : Kind) (reach : ℕ) : Type 0 where
  pub each : (c : ℕ) → asked_by case kind c ≤ reach

-- no instance with a target in this role beside these others asks more
pub record IsReachOf (case : Case) (kind : Kind) (place : ℕ) (others : List ℕ) (reach : ℕ) : Type 0 where
  pub each : (c : ℕ) → margin_of case kind (insert others place c) ≤ reach

-- what breaks the kind with these frequencies in the other roles lies from lo to hi, whichever carrier is the target
pub record BreaksWithin (case : Case) (kind : Kind) (place : ℕ) (others freqs : List ℕ) (lo hi : ℤ) : Type 0 where
  pub each : (c f : ℕ) → Breaks kind place freqs (margin_of case kind (insert others place c)) (pos f) → IsIn lo hi f

-- no index that is left to the carrier has a frequency from lo to hi
pub record HasNoneOf (case : Case) (has : Box) (c : ℕ) (lo hi : ℤ) : Type 0 where
  pub none : (k : ℕ) → has c k ≡ true → ¬ IsIn lo hi (freq_of case c k)

-- so it is for each carrier
pub record HasNoneWithin (case : Case) (has : Box) (lo hi : ℤ) : Type 0 where
  pub each : (c : ℕ) → c < length case.carriers → HasNoneOf case has c lo hi
