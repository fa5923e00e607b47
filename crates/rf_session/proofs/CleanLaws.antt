-- What a run comes to where no count of faults rises.
use Rattle.std.proofs.Common.{◌≡◌, ◌≤◌, ◌+◌, ◌-◌, ◌^◌, min, ℕ, Bool, List, length, Option, Some, None, IsSomeAnd, refl, arith}
use Rattle.rf_base.specs.Cause.{Rose}
use Rattle.rf_base.specs.declared.status.Status.TheVariants.{Read, Write, Shelf}
use Rattle.rf_words.specs.declared.asked.Asked.{Asked}
use Rattle.rf_words.specs.declared.asked.Asked.TheVariants.{Session, Check, Audit, Demo}
use Rattle.rf_session.specs.Clean.{HeadlineClean}
use Rattle.rf_session.specs.Fetches.{Outside}
use Rattle.rf_session.specs.Process.{World, Ends, IsUndisturbed}
use Rattle.rf_session.specs.Top.{script_limit, Headline}

-- a count that is always 0 doesn't rise
pub never_rose : Rose 0 0 → ⊥
never_rose rose = absurd (omega arith)

-- the cause of each status that a fault makes

pub rose_read : (asked : Option Asked) (before after : World) → Ends asked Read before after → Rose before.read_faults after.read_faults
rose_read None before after ends = absurd ends
rose_read (Some Session) before after ends = ends.cause
rose_read (Some (Check show log)) before after ends = absurd ends
rose_read (Some (Audit show log)) before after ends = absurd ends
rose_read (Some (Demo seed count)) before after ends = absurd ends

pub rose_write : (asked : Option Asked) (before after : World) → Ends asked Write before after → Rose before.write_faults after.write_faults
rose_write None before after ends = ends.cause
rose_write (Some Session) before after ends = ends.cause
rose_write (Some (Check show log)) before after ends = ends.cause
rose_write (Some (Audit show log)) before after ends = ends.cause
rose_write (Some (Demo seed count)) before after ends = ends.cause

pub rose_shelf : (asked : Option Asked) (before after : World) → Ends asked Shelf before after →
    (name : List ℕ) × Rose (before.outside.faults name) (after.outside.faults name)
rose_shelf None before after ends = absurd ends
rose_shelf (Some Session) before after ends = absurd ends
rose_shelf (Some (Check show log)) before after ends = (ends.name, ends.rose)
rose_shelf (Some (Audit show log)) before after ends = (ends.name, ends.rose)
rose_shelf (Some (Demo seed count)) before after ends = absurd ends

-- where no count rises and a script is within the limit, nothing disturbs
pub undisturbed : (asked : Option Asked) (before after : World) → (Rose before.read_faults after.read_faults → ⊥) →
    (Rose before.write_faults after.write_faults → ⊥) → ((name : List ℕ) → Rose (before.outside.faults name) (after.outside.faults name) → ⊥) →
    (asked ≡ Some Session → IsSomeAnd before.left (λ bytes. length bytes ≤ script_limit)) → IsUndisturbed asked before after
undisturbed None before after read write files small = write
undisturbed (Some Session) before after read write files small = record { input = read; output = write; small = small refl }
undisturbed (Some (Check show log)) before after read write files small = record { output = write; files = λ name asks. files name }
undisturbed (Some (Audit show log)) before after read write files small = record { output = write; files = λ name asks. files name }
undisturbed (Some (Demo seed count)) before after read write files small = write

none_of : (n : ℕ) → min (0 + n) (2 ^ 64 - 1) ≤ 0 → n ≡ 0
none_of n bound = omega arith

-- where the counts of the shelf are always 0, no file is answered E11
pub HeadlineClean-counts : (before after : Outside) (bytes : List ℕ) (refusal : Bool) → ((name : List ℕ) → before.faults name ≡ 0) →
    ((name : List ℕ) → after.faults name ≡ 0) → Headline before after bytes refusal → HeadlineClean before after bytes refusal
HeadlineClean-counts before after bytes refusal old new headline = record {
  headline = headline;
  fetched = λ name. let bound = headline.shelf name in none_of _ (rw (old name, new name) at bound);
}
