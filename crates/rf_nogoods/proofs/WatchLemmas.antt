-- Two conditions whose watches are left do not hold throughout.
use Rattle.std.proofs.Common.{◌≡◌, ℕ, ◌<◌, List, Bool, true, length, sym, ◌∙◌, ap, subst, arith, slice_index_or}
use Rattle.std.proofs.lemmas.List.{length-map}
use Rattle.rf_log.specs.declared.cond.Cond.{Cond}
use Rattle.rf_log.specs.Box.{Box}
use Rattle.rf_log.specs.Case.{Case}
use Rattle.rf_log.specs.Relations.{members}
use Rattle.rf_domain.specs.Sets.{has, sizes}
use Rattle.rf_propagate.specs.Openings.{AllFit, IsUnmet}
use Rattle.rf_propagate.proofs.OpeningLaws.{same_at}
use Rattle.rf_nogoods.specs.declared.watch.Watch.{Watch}
use Rattle.rf_nogoods.specs.declared.watch.Watches.{Watches}
use Rattle.rf_nogoods.specs.Removals.{IsDone}
use Rattle.rf_nogoods.specs.Watched.{IsWatchOf, AreWatches}
use Rattle.rf_nogoods.proofs.RemovalLemmas.{carrier_in, two_blocked, any_cond}

-- the carrier of a watch is one of the sets
pub watch_known : (sets : List (List Bool)) (conds : List Cond) (i : ℕ) (w : Watch) → AllFit (sizes sets) conds → i < length conds
    → ((d : Cond) → IsWatchOf (slice_index_or conds i d) w) → w.carrier < length sets
watch_known sets conds i w fit low watch =
    let cond = slice_index_or conds i any_cond in
    let known = carrier_in (sizes sets) cond.carrier cond.hi (fit i any_cond low).known in
    omega (arith, known, (watch any_cond).carrier, length-map sets length)

-- an index that is left keeps the condition from holding throughout
pub watch_unmet : (b : Box) (cond : Cond) (w : Watch) → IsWatchOf cond w → b w.carrier w.index ≡ true → IsUnmet b cond w.index
watch_unmet b cond w watch left = record { here = ap (λ c. b c w.index) (sym watch.carrier) ∙ left; unmet = watch.unmet }

pub watches_done : (case : Case) (sets : List (List Bool)) (conds : List Cond) (ws : Watches) → AreWatches conds ws
    → has sets ws.first.carrier ws.first.index ≡ true → has sets ws.second.carrier ws.second.index ≡ true → IsDone case (members (has sets)) conds
watches_done case sets conds ws watches first second =
    two_blocked case (has sets) conds watches.i watches.j watches.apart watches.known
    (λ d. (ws.first.index, watch_unmet (has sets) _ ws.first (watches.first d) first))
    (λ d. (ws.second.index, watch_unmet (has sets) _ ws.second (watches.second d) second))

-- the condition that was read is the one at its place
pub watch_at : (conds : List Cond) (i : ℕ) (e : Cond) (w : Watch) → i < length conds → IsWatchOf (slice_index_or conds i e) w
    → (d : Cond) → IsWatchOf (slice_index_or conds i d) w
watch_at conds i e w low watch d = subst (λ (x : Cond). IsWatchOf x w) (same_at conds i d e low) watch
