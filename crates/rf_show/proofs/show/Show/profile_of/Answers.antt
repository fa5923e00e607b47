use Rattle.std.proofs.Common.{◌≡◌, true, get_or, ap, sym, ◌∙◌, is_some, find}
use Rattle.std.specs.Option.{option_copied}
use Rattle.rf_show.specs.Show.{is_narrow, is_profile}
use Rattle.rf_show.proofs.QueryLemmas.{carrier-has_profile, is_some-copied, found-narrow, margins-narrow, profile-is, spacing-narrow}
use Rattle.rf_show.proofs.show.Show.profile_of.Goals as goal

pub unwrap-requires : goal.unwrap-requires
unwrap-requires c =
    let show = c.args.self.now in
    let name = (get_or show.carriers c.args.carrier c.index-carriers-carrier.result).profile in
    let there : is_some (find (is_profile name) show.profiles) ≡ true = carrier-has_profile show c.args.carrier c.index-carriers-carrier.result c.carriers.ensures.form c.requires in
    let named : option_copied c.profile_named.result ≡ find (is_profile name) show.profiles = rw (c.profiles.ensures, c.carriers.ensures.value) at c.profile_named.ensures in
    is_some-copied c.profile_named.result (ap is_some named ∙ there)

pub returns-clause-value : goal.returns-clause-value
returns-clause-value c =
    let show = c.args.self.now in
    let named : option_copied c.profile_named.result ≡ find (is_profile (get_or show.carriers c.args.carrier c.index-carriers-carrier.result).profile) show.profiles =
    rw (c.profiles.ensures, c.carriers.ensures.value) at c.profile_named.ensures in
    profile-is show c.args.carrier c.index-carriers-carrier.result c.requires ∙ sym named ∙ ap option_copied c.unwrap.ensures

narrow : (c : goal.After-unwrap) → is_narrow c.unwrap.result.now ≡ true
narrow c =
    let show = c.args.self.now in
    let name = (get_or show.carriers c.args.carrier c.index-carriers-carrier.result).profile in
    let named : option_copied c.profile_named.result ≡ find (is_profile name) show.profiles = rw (c.profiles.ensures, c.carriers.ensures.value) at c.profile_named.ensures in
    found-narrow show name c.unwrap.result.now c.carriers.ensures.form (sym named ∙ ap option_copied c.unwrap.ensures)

pub returns-clause-spacing : goal.returns-clause-spacing
returns-clause-spacing c = spacing-narrow c.unwrap.result.now (narrow c)

pub returns-clause-margins : goal.returns-clause-margins
returns-clause-margins c = margins-narrow c.unwrap.result.now (narrow c)
