-- Channels at which a further carrier could be added, and a set of them that can be added together.
use Rattle.std.specs.Prelude.{◌≡◌, ◌<◌, ℕ, suc, zero, Bool, true, false, List, [], ◌∷◌, ◌+◌, ◌&&◌, ◌==◌, not, filter, length, map, slice_get, slice_index, if◌then◌else◌}
use Rattle.std.specs.List.{list_any}
use Rattle.std.specs.Option.{option_map_or}
use Rattle.rf_terms.specs.Kinds.{kinds, roles_of}
use Rattle.rf_terms.specs.declared.kind.Kind.{Kind}
use Rattle.rf_show.specs.Show.{ShowData, is_show}
use Rattle.rf_show.specs.Query.{is_banned}
use Rattle.rf_rules.specs.Analyses.{analysis}
use Rattle.rf_rules.specs.Instances.{ats_of, is_broken}
use Rattle.rf_rules.specs.Tuples.{tuples, upto}
use Rattle.rf_spares.specs.Newcomers.{channels_at, extended, extended_by}

-- a carrier stands in one of the roles
abbrev pub has_role : ℕ → List ℕ → Bool
has_role c t = list_any (λ d. d == c) t

-- an instance of a kind, over assigned carriers, that has this carrier in a role is broken
abbrev pub breaks_kind : ShowData → ℕ → Kind → Bool
breaks_kind show c kind =
    list_any (λ t. has_role c t && is_broken show (ats_of show) kind t) (tuples (roles_of kind) (upto (length show.carriers)))

abbrev pub breaks_with : ShowData → ℕ → Bool
breaks_with show c = list_any (breaks_kind show c) kinds

-- A further carrier of this profile and zone could stand at a frequency: it isn't banned for it, and no instance that has
-- it in a role is broken. It is judged as the last carrier of the show with it.
unfoldable pub is_spare : ShowData → ℕ → ℕ → ℕ → Bool
is_spare show profile zone f =
    not (is_banned (extended show profile zone f) (length show.carriers) f)
    && not (breaks_with (extended show profile zone f) (length show.carriers))

-- a channel of the profile is spare
abbrev pub spare : ShowData → ℕ → ℕ → ℕ → Bool
spare show profile zone k = option_map_or (is_spare show profile zone) (slice_get (channels_at show profile) k) false

-- the spare channels, in rising order
abbrev pub spare_channels : ShowData → ℕ → ℕ → List ℕ
spare_channels show profile zone = filter (spare show profile zone) (upto (length (channels_at show profile)))

-- Channels from number k on, with these frequencies: as long as some are wanted, one is taken where it is spare in the show
-- with all those that were taken before.
unfoldable pub taken_from : ShowData → ℕ → ℕ → ℕ → ℕ → List ℕ → List ℕ
taken_from show profile zone wanted k [] = []
taken_from show profile zone zero k (f ∷ fs) = []
taken_from show profile zone (suc wanted) k (f ∷ fs) =
    if is_spare show profile zone f
    then k ∷ taken_from (extended show profile zone f) profile zone wanted (k + 1) fs
    else taken_from show profile zone (suc wanted) (k + 1) fs

-- the channels that are taken, in rising order: the first that is spare, then the first that is spare beside it, and so on
abbrev pub chosen : ShowData → ℕ → ℕ → ℕ → List ℕ
chosen show profile zone count = taken_from show profile zone count 0 (channels_at show profile)

-- the show with a further carrier at each of these channels
abbrev pub with_channels : ShowData → ℕ → ℕ → List ℕ → ShowData
with_channels show profile zone ks = extended_by show profile zone (map (slice_index (channels_at show profile)) ks)

-- The conflicts of a show stay as they are, entry for entry, where all that is chosen is added.
abbrev pub ChosenKeepTheAnalysis : Type 0
ChosenKeepTheAnalysis = (show : ShowData) (profile zone count : ℕ) → is_show show ≡ true → profile < length show.profiles
    → analysis (with_channels show profile zone (chosen show profile zone count)) ≡ analysis show
