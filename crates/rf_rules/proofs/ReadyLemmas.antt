-- What a search that is ready knows.
use Rattle.std.proofs.Common.{◌≡◌, ◌-◌, ◌<◌, ◌≤◌, ◌+◌, ◌++◌, ◌∷◌, [], ℕ, ℤ, pos, Bool, List, length, get_or, set, take, max, ap, sym, ◌∙◌, arith, unsigned_abs}
use Rattle.std.proofs.lemmas.List.{get_or-map, get_or-take, length-map, length-take-le, take_more_set}
use Rattle.rf_terms.specs.Kinds.{AllSmall, coefficients_of, roles_of}
use Rattle.rf_terms.specs.declared.kind.Kind.{Kind}
use Rattle.rf_show.specs.Query.{asked, margin_of}
use Rattle.rf_rules.specs.Tuples.{found_in, tuples, upto}
use Rattle.rf_rules.specs.Instances.{AreCarriers, khz_in, khzs_in}
use Rattle.rf_rules.specs.Searches.{IsReady, floor_of, lane_of, last_coefficient, partial_of}
use Rattle.rf_rules.specs.declared.lane.Lane.{Lane}
use Rattle.rf_rules.specs.declared.search.Search.{Search}
use Rattle.rf_rules.proofs.FormLemmas.{abs-mul, khz-limited, margin-push}
use Rattle.rf_terms.proofs.FormLaws.{form-bound}
use Rattle.rf_terms.specs.Forms.{AreFrequencies}
use Rattle.rf_rules.proofs.TupleLaws.{AreCarriers-push, get_or-upto, length-upto}
use Rattle.rf_terms.proofs.KindLaws.{four_roles, two_roles}

pub ready-small : (s : Search) → IsReady s → AllSmall (coefficients_of s.kind)
ready-small s h = rw (← h.coefficients) h.small

pub ready-bound : (s : Search) (t : List ℕ) → IsReady s → unsigned_abs (partial_of s t) ≤ 640000000
ready-bound s t h =
    let fs : AreFrequencies (khzs_in s.ats.now t) = λ k d p.
    let e : get_or (khzs_in s.ats.now t) k d ≡ khz_in s.ats.now (get_or t k 0) = get_or-map (khz_in s.ats.now) t k 0 d (omega (arith, p, length-map t (khz_in s.ats.now))) in
    rw e (khz-limited s.ats.now (get_or t k 0) h.limited) in
    omega (arith, form-bound (coefficients_of s.kind) (khzs_in s.ats.now t) (ready-small s h) fs, four_roles s.kind)

pub ready-lane : (s : Search) (c : ℕ) (d : Lane) → IsReady s → c < length s.ats.now → get_or s.lanes.now c d ≡ lane_of s.show.now s.ats.now s.kind c
ready-lane s c d h p =
    let n = length s.ats.now in
    let lane = lane_of s.show.now s.ats.now s.kind in
    rw h.lanes (get_or-map lane (upto n) c 0 d (omega (arith, length-upto n, p)) ∙ ap lane (get_or-upto n c 0 p))

pub ready-term : (s : Search) (c : ℕ) → IsReady s → unsigned_abs (lane_of s.show.now s.ats.now s.kind c).term ≤ 80000000
ready-term s c h =
    abs-mul (last_coefficient s.kind) (pos (khz_in s.ats.now c)) (ready-small s h (roles_of s.kind - 1) (pos 0) (omega (arith, two_roles s.kind))).1 (khz-limited s.ats.now c h.limited)

pub ready-lanes : (s : Search) → IsReady s → length s.lanes.now ≡ length s.ats.now
ready-lanes s h = ap length h.lanes ∙ length-map (upto (length s.ats.now)) (lane_of s.show.now s.ats.now s.kind) ∙ length-upto (length s.ats.now)

-- a width that is no less than what a lane needs is no less than what a carrier asks
pub ready-wide : (s : Search) (most width : ℕ) → IsReady s → ((c : ℕ) (d : Lane) → c < length s.lanes.now → (get_or s.lanes.now c d).needs ≤ most) → most ≤ width →
    (c : ℕ) → c < length s.ats.now → asked s.show.now s.kind c ≤ width
ready-wide s most width r h w c low =
    let d : Lane = record { term = pos 0; needs = 0 } in
    omega (arith, h c d (omega (arith, low, ready-lanes s r)), ap (λ (l : Lane). l.needs) (ready-lane s c d r low), w)

-- ---- the roles that are taken

pub taken-many : (kind : Kind) (roles : List ℕ) (depth : ℕ) → length roles ≡ 4 → depth < roles_of kind → length (take depth roles) ≡ depth
taken-many kind roles depth n h = length-take-le depth roles (omega (arith, n, four_roles kind, h))

pub taken-next : (kind : Kind) (roles : List ℕ) (depth c : ℕ) → length roles ≡ 4 → depth < roles_of kind → take (depth + 1) (set roles depth c) ≡ take depth roles ++ c ∷ []
taken-next kind roles depth c n h = take_more_set roles depth c (omega (arith, n, four_roles kind, h))

-- what a search over the next roles needs of those that are taken
pub taken-more : (s : Search) (roles : List ℕ) (depth c : ℕ) (z : ℤ) → length roles ≡ 4 → depth < roles_of s.kind → AreCarriers s.ats.now (take depth roles) → c < length s.ats.now →
    z ≡ partial_of s (take depth roles ++ c ∷ []) → (z ≡ partial_of s (take (depth + 1) (set roles depth c))) × AreCarriers s.ats.now (take (depth + 1) (set roles depth c))
taken-more s roles depth c z n h taken low e =
    let m = taken-next s.kind roles depth c n h in
    let push = AreCarriers-push s.ats.now (take depth roles) c taken low in
    (rw m e, rw m push)

-- a fact of the roles taken by one carrier more, by those that are left
pub taken-as : {Y : Type 0} (f : List ℕ → ℕ → Y) (kind : Kind) (roles : List ℕ) (depth c j k : ℕ) → length roles ≡ 4 → depth < roles_of kind → j ≡ k →
    f (take (depth + 1) (set roles depth c)) j ≡ f (take depth roles ++ c ∷ []) k
taken-as f kind roles depth c j k n h e = ap (λ t. f t j) (taken-next kind roles depth c n h) ∙ ap (f (take depth roles ++ c ∷ [])) e

pub found-next : {Y : Type 0} (f : List ℕ → Y) (p : List ℕ → Bool) (kind : Kind) (roles : List ℕ) (depth c j k n : ℕ) → length roles ≡ 4 → depth < roles_of kind → j ≡ k →
    found_in f p (take (depth + 1) (set roles depth c)) (tuples j (upto n)) ≡ found_in f p (take depth roles ++ c ∷ []) (tuples k (upto n))
found-next f p kind roles depth c j k n few h e = taken-as (λ t i. found_in f p t (tuples i (upto n))) kind roles depth c j k few h e

-- what is asked with a carrier in the last role
pub margin-taken : (s : Search) (roles : List ℕ) (depth c floor : ℕ) (d : Lane) → IsReady s → length roles ≡ 4 → depth + 1 ≡ roles_of s.kind → c < length s.ats.now →
    floor ≡ floor_of s.show.now s.kind (get_or roles 0 0) → max floor (get_or s.lanes.now c d).needs ≡ margin_of s.show.now s.kind (take depth roles ++ c ∷ [])
margin-taken s roles depth c floor d r n h low e =
    let t = take depth roles in
    let first : get_or t 0 0 ≡ get_or roles 0 0 = get_or-take depth roles 0 0 (omega (arith, two_roles s.kind, h)) in
    rw (ready-lane s c d r low, e, ← first) (sym (margin-push s.show.now s.kind t c (omega (arith, taken-many s.kind roles depth n (omega (arith, h)), h))))
