use Rattle.std.proofs.Common.{◌≡◌, true, refl, arith, sym, ◌∙◌}
use Rattle.rf_show.specs.Show.{ShowData}
use Rattle.rf_show.specs.Taken.{step_fits, stepped}
use Rattle.rf_show.proofs.AdmittedLemmas.{leads_to}
use Rattle.rf_show.proofs.RoomLemmas.{leads_there, profiles_room, carriers_room, bans_room, scans_room}
use Rattle.rf_show.proofs.show.Show.back.Goals as goal
use Rattle.rf_show.proofs.show.Show.back.Goals.{in-Profiles, in-Carriers, in-Zones, in-Bans, in-Scans, in-Frequencies}

pub make_change-requires-clause-room : goal.make_change-requires-clause-room
make_change-requires-clause-room c =
    let held : ShowData = record {
      profiles = c.self.inside.profiles.items;
      zones = c.self.inside.zones;
      carriers = c.self.inside.carriers.items;
      bans = c.self.inside.bans.items;
      scans = c.self.inside.scans.items;
    } in
    let room = profiles_room held c.args.undo c.in-Profiles.change (rw (← c.self.view_is) at c.requires) (sym c.undo.view_is ∙ c.in-Profiles.is) in
    omega (arith, room, c.self.invariant.3)

pub make_change-requires-in-Carriers-clause-room : goal.make_change-requires-in-Carriers-clause-room
make_change-requires-in-Carriers-clause-room c =
    let held : ShowData = record {
      profiles = c.self.inside.profiles.items;
      zones = c.self.inside.zones;
      carriers = c.self.inside.carriers.items;
      bans = c.self.inside.bans.items;
      scans = c.self.inside.scans.items;
    } in
    let room = carriers_room held c.args.undo c.in-Carriers.change (rw (← c.self.view_is) at c.requires) (sym c.undo.view_is ∙ c.in-Carriers.is) in
    omega (arith, room, c.self.invariant.4)

pub make_change-requires-in-Bans-clause-room : goal.make_change-requires-in-Bans-clause-room
make_change-requires-in-Bans-clause-room c =
    let held : ShowData = record {
      profiles = c.self.inside.profiles.items;
      zones = c.self.inside.zones;
      carriers = c.self.inside.carriers.items;
      bans = c.self.inside.bans.items;
      scans = c.self.inside.scans.items;
    } in
    let room = bans_room held c.args.undo c.in-Bans.change (rw (← c.self.view_is) at c.requires) (sym c.undo.view_is ∙ c.in-Bans.is) in
    omega (arith, room, c.self.invariant.5)

pub make_change-requires-in-Scans-clause-room : goal.make_change-requires-in-Scans-clause-room
make_change-requires-in-Scans-clause-room c =
    let held : ShowData = record {
      profiles = c.self.inside.profiles.items;
      zones = c.self.inside.zones;
      carriers = c.self.inside.carriers.items;
      bans = c.self.inside.bans.items;
      scans = c.self.inside.scans.items;
    } in
    let room = scans_room held c.args.undo c.in-Scans.change (rw (← c.self.view_is) at c.requires) (sym c.undo.view_is ∙ c.in-Scans.is) in
    omega (arith, room, c.self.invariant.6)

-- the show is the one after the step
stepped_there : (c : goal.Joined-step) → c.match-step.self ≡ stepped c.args.self.now c.args.undo
stepped_there c = elim c.match-step.branch [
  | in-Profiles w ↦ rw (← c.self.view_is, ← c.undo.view_is, w.in-Profiles.is, w.self-is, w.make_change.ensures.there) refl
  | in-Carriers w ↦ rw (← c.self.view_is, ← c.undo.view_is, w.in-Carriers.is, w.self-is, w.make_change-in-Carriers.ensures.there) refl
  | in-Zones w ↦ rw (← c.self.view_is, ← c.undo.view_is, w.in-Zones.is, w.self-is, w.change_zones.ensures.there) refl
  | in-Bans w ↦ rw (← c.self.view_is, ← c.undo.view_is, w.in-Bans.is, w.self-is, w.make_change-in-Bans.ensures.there) refl
  | in-Scans w ↦ rw (← c.self.view_is, ← c.undo.view_is, w.in-Scans.is, w.self-is, w.make_change-in-Scans.ensures.there) refl
  | in-Frequencies w ↦ rw (← c.self.view_is, ← c.undo.view_is, w.in-Frequencies.is, w.self-is, w.change_frequencies.ensures.there) refl
]

-- and the step that is answered fits there
step_fits_there : (c : goal.Joined-step) → step_fits c.match-step.self c.match-step.step ≡ true
step_fits_there c = elim c.match-step.branch [
  | in-Profiles w ↦ rw (w.self-is, w.step-is) w.make_change.ensures.fits
  | in-Carriers w ↦ rw (w.self-is, w.step-is) w.make_change-in-Carriers.ensures.fits
  | in-Zones w ↦ rw (w.self-is, w.step-is) w.change_zones.ensures.fits
  | in-Bans w ↦ rw (w.self-is, w.step-is) w.make_change-in-Bans.ensures.fits
  | in-Scans w ↦ rw (w.self-is, w.step-is) w.make_change-in-Scans.ensures.fits
  | in-Frequencies w ↦ rw (w.self-is, w.step-is) w.change_frequencies.ensures.fits
]

-- and leads back
stepped_back : (c : goal.Joined-step) → stepped c.match-step.self c.match-step.step ≡ c.args.self.now
stepped_back c = elim c.match-step.branch [
  | in-Profiles w ↦ rw (w.self-is, w.step-is, w.make_change.ensures.back) c.self.view_is
  | in-Carriers w ↦ rw (w.self-is, w.step-is, w.make_change-in-Carriers.ensures.back) c.self.view_is
  | in-Zones w ↦ rw (w.self-is, w.step-is, w.change_zones.ensures.back) c.self.view_is
  | in-Bans w ↦ rw (w.self-is, w.step-is, w.make_change-in-Bans.ensures.back) c.self.view_is
  | in-Scans w ↦ rw (w.self-is, w.step-is, w.make_change-in-Scans.ensures.back) c.self.view_is
  | in-Frequencies w ↦ rw (w.self-is, w.step-is, w.change_frequencies.ensures.back) c.self.view_is
]

pub returns-clause-there : goal.returns-clause-there
returns-clause-there c = leads_there c.args.self.now c.match-step.self c.args.undo c.requires (stepped_there c)

pub returns-clause-forth : goal.returns-clause-forth
returns-clause-forth c =
    leads_to c.match-step.self c.args.self.now c.match-step.step (step_fits_there c) (stepped_back c) (rw (← c.self.view_is) c.self.invariant.0)
