use Rattle.std.proofs.Common.{◌≡◌, true, arith}
use Rattle.rf_show.specs.Raised.{is_textual}
use Rattle.rf_show.specs.Show.{ShowData}
use Rattle.rf_show.proofs.RaisedLemmas.{raised_shown}
use Rattle.rf_show.proofs.show.Show.raise.Goals as goal

pub invariant_of-self : goal.invariant_of-self
invariant_of-self c =
    let held : ShowData = record {
      profiles = c.self.inside.profiles.items;
      zones = c.self.inside.zones;
      carriers = c.self.inside.carriers.items;
      bans = c.self.inside.bans.items;
      scans = c.self.inside.scans.items;
    } in
    let textual : is_textual held ≡ true = rw (← c.self.view_is) at c.requires.textual in
    let was = c.self.invariant in
    rw c.widen_all.ensures.there
    (raised_shown held c.args.extra c.requires.few textual was.0, was.1, was.2, omega (arith, was.3, c.widen_all.ensures.capacity), was.4, was.5, was.6)
