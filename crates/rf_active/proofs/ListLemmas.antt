-- Lemmas on lists and channels.
use Rattle.std.proofs.Common.{◌≡◌, ℕ, ◌+◌, List, [], ◌∷◌, ◌++◌, take, Some, false, ap, sym, ◌∙◌, add-one, slice_get}
use Rattle.std.specs.Option.{option_and_then, option_map_or}
use Rattle.std.proofs.Math.Seq.{take-suc}
use Rattle.std.proofs.lemmas.Option.{get_or_from_slice_get, slice_get_within}
use Rattle.rf_profiles.specs.Channels.{channels}
use Rattle.rf_profiles.specs.Profile.{margin_widths}
use Rattle.rf_profiles.specs.declared.profile.Profile.{Profile}
use Rattle.rf_show.specs.Show.{ShowData}
use Rattle.rf_show.specs.Query.{channel_of, is_allowed, may_take, profile_of}
use Rattle.rf_show.specs.Case.{channels_of, margins_of, spacing_of}

-- the front of a list and the next element
pub take_more : (xs : List ℕ) (k x : ℕ) → slice_get xs k ≡ Some x → take k xs ++ x ∷ [] ≡ take (k + 1) xs
take_more xs k x h =
    let low = slice_get_within xs k x h in
    ap (λ y. take k xs ++ y ∷ []) (sym (get_or_from_slice_get xs k x x h))
    ∙ sym (take-suc xs k x low) ∙ ap (λ n. take n xs) (sym (add-one k))

-- the channels of a carrier are those of its profile
pub channels_are : (show : ShowData) (c : ℕ) (p : Profile) → profile_of show c ≡ Some p → channels_of show c ≡ channels p.channels
channels_are show c p h = ap (λ o. option_map_or (λ (q : Profile). channels q.channels) o []) h

-- a channel is allowed where its frequency may be taken
pub allowed_is : (show : ShowData) (c k f : ℕ) (p : Profile) → profile_of show c ≡ Some p → slice_get (channels p.channels) k ≡ Some f → is_allowed show c k ≡ may_take show c f
allowed_is show c k f p own there =
    let channel : channel_of show c k ≡ Some f = ap (λ o. option_and_then (λ (q : Profile). slice_get (channels q.channels) k) o) own ∙ there in
    ap (λ o. option_map_or (λ g. may_take show c g) o false) channel

-- what a carrier asks is what its profile asks
pub spacing_is : (show : ShowData) (c : ℕ) (p : Profile) → profile_of show c ≡ Some p → spacing_of show c ≡ p.spacing
spacing_is show c p own = ap (λ o. option_map_or (λ (q : Profile). q.spacing) o 0) own

pub margins_are : (show : ShowData) (c : ℕ) (p : Profile) → profile_of show c ≡ Some p → margins_of show c ≡ margin_widths p.margins
margins_are show c p own = ap (λ o. option_map_or (λ (q : Profile). margin_widths q.margins) o []) own
