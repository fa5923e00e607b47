-- Profiles that ask for more: what they ask at most, and that 0 kHz more is no change.
use Rattle.std.proofs.Common.{◌≡◌, ◌≤◌, ℕ, zero, suc, List, [], ◌∷◌, map, arith, refl, true, nat_le, ◌&&◌}
use Rattle.std.specs.List.{list_all}
use Rattle.std.proofs.lemmas.Bool.Decides.{nat_tests}
use Rattle.rf_profiles.specs.declared.profile.Profile.{Profile}
use Rattle.rf_profiles.specs.Profile.{is_width, margin_widths, wider, wider_profile, widths}

wider_most : (extra n : ℕ) → extra ≤ 1000 → is_width n ≡ true → nat_le (wider extra n) 101000 ≡ true
wider_most extra zero few narrow = refl
wider_most extra (suc n) few narrow = grind (arith, nat_tests, few, narrow)

wider_none : (n : ℕ) → wider 0 n ≡ n
wider_none zero = refl
wider_none (suc n) = omega arith

widths_most : (extra : ℕ) (ns : List ℕ) → extra ≤ 1000 → list_all is_width ns ≡ true → list_all (λ n. nat_le n 101000) (map (wider extra) ns) ≡ true
widths_most extra [] few narrow = refl
widths_most extra (n ∷ ns) few narrow =
    let narrow' : (is_width n && list_all is_width ns) ≡ true = narrow in
    let first : nat_le (wider extra n) 101000 ≡ true = wider_most extra n few (grind (arith, nat_tests, narrow')) in
    let rest : list_all (λ n. nat_le n 101000) (map (wider extra) ns) ≡ true = widths_most extra ns few (grind (arith, nat_tests, narrow')) in
    rw (first, rest) refl

-- what a wider profile asks
pub wider_within : (extra : ℕ) (p : Profile) → list_all is_width (widths p) ≡ true → extra ≤ 1000
    → list_all (λ n. nat_le n 101000) (widths (wider_profile extra p)) ≡ true
wider_within extra p narrow few =
    let narrow' : (is_width p.spacing && (is_width p.half && list_all is_width (margin_widths p.margins))) ≡ true = narrow in
    let spacing : nat_le (wider extra p.spacing) 101000 ≡ true = wider_most extra p.spacing few (grind (arith, nat_tests, narrow')) in
    let half : nat_le p.half 101000 ≡ true = grind (arith, nat_tests, narrow') in
    let margins : list_all (λ n. nat_le n 101000) (map (wider extra) (margin_widths p.margins)) ≡ true = widths_most extra (margin_widths p.margins) few (grind (arith, nat_tests, narrow')) in
    rw (spacing, half) margins

pub wider_by_none : (p : Profile) → wider_profile 0 p ≡ p
wider_by_none p = rw (wider_none p.spacing, wider_none p.margins.m2t3, wider_none p.margins.m3t3, wider_none p.margins.m2t5, wider_none p.margins.m3t5, wider_none p.margins.m2t7) refl
