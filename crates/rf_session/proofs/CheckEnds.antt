-- How a check ends.
use Rattle.std.proofs.Common.{◌≡◌, ℕ, List, Result, Ok, Err, refl, sym, subst}
use Rattle.std.specs.declared.option.Option.{Option}
use Rattle.rf_base.specs.Shelf.{Ask}
use Rattle.rf_base.specs.declared.status.Status.{Status}
use Rattle.rf_base.specs.declared.status.Status.TheVariants.{Done, Refused, Words, Read, Write, Shelf, Memory, Long}
use Rattle.rf_session.specs.declared.check.CheckFault.{CheckFault}
use Rattle.rf_session.specs.declared.check.CheckFault.TheVariants.{Shelf as NotFetched}
use Rattle.rf_session.specs.declared.finding.Finding.{Finding}
use Rattle.rf_session.specs.Checked.{Checks, Fetching, Found, IfFound, Judging, KeepsOthers, Unjudged}
use Rattle.rf_session.specs.Fetches.{Fetched, fault, Outside, outside, shelf_alone}
use Rattle.rf_session.specs.Finding.{Tells}
use Rattle.rf_session.proofs.CheckFailures.{NotFound-found}
use Rattle.rf_session.proofs.Checking.{may_fail}

-- what was fetched is the same, whatever was written
Fetching-written : (finds : List Fetched → List Fetched → Type 0) (written written' : Option (List ℕ))
    (file file' : List ℕ → Option (Option (List ℕ))) (counts counts' : List ℕ → ℕ) (asked asked' : Option (List Ask)) →
    Fetching finds (shelf_alone file counts asked) (shelf_alone file' counts' asked') → Fetching finds (outside written file counts asked) (outside written' file' counts' asked')
Fetching-written finds written written' file file' counts counts' asked asked' it = record {
  first = it.first;
  last = it.last;
  finds = it.finds;
  mid = it.mid;
  brought = record { told = it.brought.told; bound = it.brought.bound; same = it.brought.same; asks = it.brought.asks };
  brought_log = record { told = it.brought_log.told; bound = it.brought_log.bound; same = it.brought_log.same; asks = it.brought_log.asks };
  kept = it.kept;
}

-- no memory was found at the start
pub Unjudged-none : (show log : List ℕ) (o : Outside) → Unjudged show log o o
Unjudged-none show log o = record { unwritten = refl; keeps = record { got = fault; may = may_fail (o.file show); others = λ name a b c. refl } }

-- what was found is written
pub Checks-told : (judge : Judging) (status : Status) (show log : List ℕ) (finding : Finding) (written written' : Option (List ℕ)) (file file' : List ℕ → Option (Option (List ℕ)))
    (counts counts' : List ℕ → ℕ) (asked asked' : Option (List Ask)) → Found judge show log (shelf_alone file counts asked) (shelf_alone file' counts' asked') (Ok finding) →
    KeepsOthers show log (shelf_alone file counts asked) (shelf_alone file' counts' asked') → Tells finding status written written' →
    Checks judge status show log (outside written file counts asked) (outside written' file' counts' asked')
Checks-told judge Done show log finding w w' file file' counts counts' asked asked' it keeps (is, wrote) =
    record { finding = finding; run = Fetching-written _ w w' file file' counts counts' asked asked' it; wrote = wrote; ends = sym is }
Checks-told judge Refused show log finding w w' file file' counts counts' asked asked' it keeps (is, wrote) =
    record { finding = finding; run = Fetching-written _ w w' file file' counts counts' asked asked' it; wrote = wrote; ends = sym is }
Checks-told judge Write show log finding w w' file file' counts counts' asked asked' it keeps wrote =
    record { finding = finding; run = Fetching-written _ w w' file file' counts counts' asked asked' it; wrote = wrote }
Checks-told judge Memory show log finding w w' file file' counts counts' asked asked' it keeps same =
    record { unwritten = same; keeps = record { got = keeps.got; may = keeps.may; others = keeps.others } }
Checks-told judge Words show log finding w w' file file' counts counts' asked asked' it keeps bad = absurd bad
Checks-told judge Read show log finding w w' file file' counts counts' asked asked' it keeps bad = absurd bad
Checks-told judge Shelf show log finding w w' file file' counts counts' asked asked' it keeps bad = absurd bad
Checks-told judge Long show log finding w w' file file' counts counts' asked asked' it keeps bad = absurd bad

-- the shelf failed
pub Checks-failed : (judge : Judging) (r : Result Finding CheckFault) (show log : List ℕ) (written : Option (List ℕ))
    (file file' : List ℕ → Option (Option (List ℕ))) (counts counts' : List ℕ → ℕ) (asked asked' : Option (List Ask)) →
    r ≡ Err NotFetched → IfFound r (Found judge show log (shelf_alone file counts asked) (shelf_alone file' counts' asked')) →
    Checks judge Shelf show log (outside written file counts asked) (outside written file' counts' asked')
Checks-failed judge r show log w file file' counts counts' asked asked' is finds =
    let it = subst (λ (q : Result Finding CheckFault). IfFound q (Found judge show log (shelf_alone file counts asked) (shelf_alone file' counts' asked'))) is finds in
    NotFound-found judge show log _ _ (Fetching-written _ w w file file' counts counts' asked asked' it) refl
