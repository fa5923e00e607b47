-- What is spare in a show, what a field has open, and what is taken.
use Rattle.std.proofs.Common.{◌≡◌, ◌<◌, ◌≤◌, ◌+◌, ◌-◌, ℕ, zero, suc, true, false, ◌&&◌, List, [], ◌∷◌, ◌++◌, length, map, refl, ap, sym, subst, ◌∙◌, arith, inl, inr, get_or, drop}
use Rattle.std.specs.Prelude.{Option, Some, None, filter, not, slice_index}
use Rattle.std.specs.Option.{option_map_or}
use Rattle.std.proofs.lemmas.Bool.{cases_lt}
use Rattle.std.proofs.lemmas.List.{append-nil, append_assoc, drop_all, drop_more, map-append, map_push}
use Rattle.std.proofs.lemmas.Option.{slice_get-get_or}
use Rattle.rf_show.specs.Limits.{most_carriers}
use Rattle.rf_show.specs.Query.{is_banned}
use Rattle.rf_show.specs.Show.{ShowData}
use Rattle.rf_show.specs.declared.carrier.Carrier.{Carrier}
use Rattle.rf_rules.specs.Instances.{ats_of}
use Rattle.rf_rules.specs.Tuples.{upto}
use Rattle.rf_spares.specs.Exclusions.{bans_newcomer}
use Rattle.rf_spares.specs.Fields.{AreClosed, IsField, IsFirstOpen, channels_of, is_open, is_open_channel}
use Rattle.rf_spares.specs.Harms.{Site, harms}
use Rattle.rf_spares.specs.Newcomers.{channels_at, extended, extended_by, newcomer}
use Rattle.rf_spares.specs.Searches.{site}
use Rattle.rf_spares.specs.Spare.{breaks_with, is_spare, spare_channels, taken_from}
use Rattle.rf_spares.specs.declared.field.Field.{Field}
use Rattle.rf_spares.proofs.HarmLemmas.{breaks-is, grown, last, last-is, length-ats, length-with, now}
use Rattle.rf_spares.proofs.ListLemmas.{filter-same}
use Rattle.rf_spares.proofs.SiteLemmas.{IsSite, known-site, own-profile}

pub none-added : (s : Site) → extended_by s.show s.profile s.zone [] ≡ s.show
none-added s = ap (λ cs. record s.show { carriers = cs }) (append-nil s.show.carriers)

pub grown-is : (s : Site) (khzs : List ℕ) (f : ℕ) → extended (extended_by s.show s.profile s.zone khzs) s.profile s.zone f ≡ grown s khzs f
grown-is s khzs f =
    let new : ℕ → Carrier = λ g. newcomer s.show s.profile s.zone (Some g) in
    ap (λ cs. record s.show { carriers = cs }) (append_assoc s.show.carriers (map new khzs) (map new (f ∷ [])) ∙ ap (λ cs. s.show.carriers ++ cs) (sym (map-append new khzs (f ∷ []))))

banned-is : (s : Site) (khzs : List ℕ) (f : ℕ) → IsSite s → is_banned (grown s khzs f) (last s khzs) f ≡ bans_newcomer s.show s.profile s.zone f
unfolding is_banned
banned-is s khzs f known =
    let own = own-profile s.show s.profile known.own known.shown known.is in
    let is = known.is in
    rw (last-is s khzs f, own, is) refl

-- a frequency is spare in the show with newcomers where it isn't banned and nothing is harmed
spare-is : (s : Site) (khzs : List ℕ) (f : ℕ) → IsSite s → last s khzs ≤ most_carriers
    → is_spare (extended_by s.show s.profile s.zone khzs) s.profile s.zone f ≡ (not (bans_newcomer s.show s.profile s.zone f) && not (harms s (now s khzs) None f))
unfolding is_spare
spare-is s khzs f known few =
    ap (λ m. not (is_banned (extended (extended_by s.show s.profile s.zone khzs) s.profile s.zone f) m f) && not
    (breaks_with (extended (extended_by s.show s.profile s.zone khzs) s.profile s.zone f) m)) (length-with s khzs)
    ∙ ap (λ x. not (is_banned x (last s khzs) f) && not (breaks_with x (last s khzs))) (grown-is s khzs f)
    ∙ grind (arith, banned-is s khzs f known, breaks-is s khzs f known few)

-- ---- what is taken

module _ (show : ShowData) (profile zone wanted : ℕ) (xs : List ℕ) where
  abbrev taken : ℕ → List ℕ
  taken k = taken_from show profile zone (suc wanted) k (drop k xs)

  -- channels that aren't spare are passed over
  taken-skip : (d k j : ℕ) → j ≡ k + d → j ≤ length xs → ((i : ℕ) → k ≤ i → i < j → is_spare show profile zone (get_or xs i 0) ≡ false) → taken k ≡ taken j
  unfolding taken_from
  taken-skip zero k j e h shut = let f : k ≡ j = omega (arith, e) in ap taken f
  taken-skip (suc d) k j e h shut =
      let here = shut k (omega arith) (omega (arith, e)) in
      rw (drop_more xs k 0 (omega (arith, e, h)), here) (taken-skip d (k + 1) j (omega (arith, e)) h (λ i a b. shut i (omega (arith, a)) b))

  -- none is left
  taken-end : (k : ℕ) → ((i : ℕ) → k ≤ i → i < length xs → is_spare show profile zone (get_or xs i 0) ≡ false) → taken k ≡ []
  unfolding taken_from
  taken-end k shut =
      elim (cases_lt k (length xs)) [
        | inl low ↦ taken-skip (length xs - k) k (length xs) (omega (arith, low)) (omega arith) shut ∙ rw (drop_all (length xs) xs (omega arith)) refl
        | inr past ↦ rw (drop_all k xs past) refl
      ]

  -- the next is taken
  taken-next : (k j : ℕ) → k ≤ j → j < length xs → ((i : ℕ) → k ≤ i → i < j → is_spare show profile zone (get_or xs i 0) ≡ false) → is_spare show profile zone (get_or xs j 0) ≡ true
      → taken k ≡ j ∷ taken_from (extended show profile zone (get_or xs j 0)) profile zone wanted (j + 1) (drop (j + 1) xs)
  unfolding taken_from
  taken-next k j le h shut clear = taken-skip (j - k) k j (omega (arith, le)) (omega (arith, h)) shut ∙ rw (drop_more xs j 0 h, clear) refl

-- what is taken from a channel on, beside these
abbrev pub left_of : Site → List ℕ → ℕ → ℕ → List ℕ
left_of s ks wanted from =
    taken_from (extended_by s.show s.profile s.zone (map (slice_index (channels_at s.show s.profile)) ks)) s.profile s.zone wanted from (drop from (channels_at s.show s.profile))

-- the frequencies of a show's carriers, and of newcomers at these channels
abbrev pub ats_with : Site → List ℕ → List (Option ℕ)
ats_with s ks = now s (map (slice_index (channels_at s.show s.profile)) ks)

-- one newcomer more
pub ats-more : (s : Site) (ats new : List (Option ℕ)) (ks more : List ℕ) (k f : ℕ) → new ≡ ats ++ Some f ∷ [] → ats ≡ ats_with s ks → more ≡ ks ++ k ∷ []
    → slice_index (channels_at s.show s.profile) k ≡ f → new ≡ ats_with s more
ats-more s ats new ks more k f e a m khz =
    let at : ℕ → ℕ = slice_index (channels_at s.show s.profile) in
    rw (e, a, m, ← khz, map_push at ks k, map_push Some (map at ks) (at k)) (append_assoc (ats_of s.show) (map Some (map at ks)) (Some (at k) ∷ []))

-- nothing more is taken where no more are wanted
full-taken : (show : ShowData) (profile zone k : ℕ) (fs : List ℕ) → taken_from show profile zone 0 k fs ≡ []
unfolding taken_from
full-taken show profile zone k [] = refl
full-taken show profile zone k (f ∷ fs) = refl

pub none-left : (s : Site) (ks : List ℕ) (wanted from : ℕ) → wanted ≡ 0 → left_of s ks wanted from ≡ []
none-left s ks wanted from none = rw none (full-taken _ _ _ from _)

-- ---- of a field that is made for a place

module _ (field : Field) (s : Site) (e : site field.crowd ≡ s) (known : IsField field) where
  same-channels : channels_of field ≡ channels_at s.show s.profile
  same-channels = ap (λ (t : Site). channels_at t.show t.profile) e

  -- what is open is spare in the show with the newcomers
  open-is : (khzs : List ℕ) (k : ℕ) → field.ats.items ≡ now s khzs
      → is_open_channel field k ≡ is_spare (extended_by s.show s.profile s.zone khzs) s.profile s.zone (slice_index (channels_at s.show s.profile) k)
  open-is khzs k ats =
      let f = slice_index (channels_at s.show s.profile) k in
      ap (λ cs. is_open field (slice_index cs k)) same-channels
      ∙ ap (λ (t : Site). not (bans_newcomer t.show t.profile t.zone f) && not (harms t field.ats.items None f)) e
      ∙ ap (λ zs. not (bans_newcomer s.show s.profile s.zone f) && not (harms s zs None f)) ats
      ∙ sym (spare-is s khzs f (subst IsSite e (known-site (site field.crowd) known.known.shown known.known.profile)) (omega (arith, known.few, ap length ats, length-ats s khzs)))

  -- the open channels are the spare ones
  pub free-at : field.ats.items ≡ ats_of s.show → filter (is_open_channel field) (upto (length (channels_of field))) ≡ spare_channels s.show s.profile s.zone
  free-at ats =
      let chs = channels_at s.show s.profile in
      ap (λ cs. filter (is_open_channel field) (upto (length cs))) same-channels
      ∙ filter-same _ _ (length chs) (λ k low.
      open-is [] k (ats ∙ sym (append-nil (ats_of s.show))) ∙ ap (λ x. is_spare x s.profile s.zone (slice_index chs k)) (none-added s)
      ∙ sym (ap (λ o. option_map_or (is_spare s.show s.profile s.zone) o false) (slice_get-get_or chs k 0 low)))

  -- nothing more is taken where none is open
  pub stop-taken : (ks : List ℕ) (wanted from : ℕ) → field.ats.items ≡ ats_with s ks → AreClosed field from (length (channels_of field)) → 0 < wanted → left_of s ks wanted from ≡ []
  stop-taken ks wanted from ats closed some =
      let n : wanted ≡ suc (wanted - 1) = omega (arith, some) in
      ap (λ w. left_of s ks w from) n
      ∙ taken-end _ _ _ (wanted - 1) (channels_at s.show s.profile) from (λ i a b. sym (open-is _ i ats) ∙ closed i a (omega (arith, b, ap length same-channels)))

  -- the first that is open is taken
  pub go-taken : (all ks more : List ℕ) (wanted less from k : ℕ) → field.ats.items ≡ ats_with s ks → IsFirstOpen field from k → wanted ≡ suc less
      → all ≡ ks ++ left_of s ks wanted from → more ≡ ks ++ k ∷ [] → all ≡ more ++ left_of s more less (k + 1)
  go-taken all ks more wanted less from k ats first n is m =
      let chs = channels_at s.show s.profile in
      let step : left_of s ks wanted from ≡ k ∷ left_of s (ks ++ k ∷ []) less (k + 1) =
      ap (λ w. left_of s ks w from) n
      ∙ taken-next _ _ _ less chs from k first.after (omega (arith, first.within, ap length same-channels))
      (λ i a b. sym (open-is _ i ats) ∙ first.before i a b) (sym (open-is _ k ats) ∙ first.clear)
      ∙ ap (λ x. k ∷ taken_from x s.profile s.zone less (k + 1) (drop (k + 1) chs))
      (grown-is s (map (slice_index chs) ks) (slice_index chs k) ∙ ap (extended_by s.show s.profile s.zone) (sym (map_push (slice_index chs) ks k))) in
      is ∙ ap (λ zs. ks ++ zs) step ∙ sym (append_assoc ks (k ∷ []) (left_of s (ks ++ k ∷ []) less (k + 1))) ∙ ap (λ zs. zs ++ left_of s zs less (k + 1)) (sym m)
