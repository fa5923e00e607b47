-- How the program ends, by what was asked.
use Rattle.std.proofs.Common.{◌≡◌, ℕ, Bool, true, false, List, Some, None, Err, refl, subst, arith, if◌then◌else◌}
use Rattle.std.specs.declared.option.Option.{Option}
use Rattle.rf_base.specs.Cause.{Rose}
use Rattle.rf_base.specs.Told.{WhereTold}
use Rattle.rf_base.specs.declared.status.Status.{Status}
use Rattle.rf_base.specs.declared.status.Status.TheVariants.{Done, Refused, Words, Read, Write, Shelf, Memory, Long}
use Rattle.rf_words.specs.declared.asked.Asked.{Asked}
use Rattle.rf_words.specs.declared.asked.Asked.TheVariants.{Session, Check, Audit, Demo}
use Rattle.rf_session.specs.declared.check.CheckFault.TheVariants.{Shelf as NotFetched}
use Rattle.rf_session.specs.Checked.{Checks, Judging, audited, judged}
use Rattle.rf_session.specs.Demonstrated.{Demonstrates}
use Rattle.rf_session.specs.Process.{DemoEnds, Ends, EndsWell, IsDone, IsUndisturbed, JudgingEnds, JudgingUndisturbed, SessionEnds, SessionServed, UsageEnds, World}
use Rattle.rf_session.specs.Top.{Headline, Serves}
use Rattle.rf_session.specs.Words.{Usage}
use Rattle.rf_session.proofs.CheckEnds.{Unjudged-none}
use Rattle.rf_session.proofs.Starting.{fits, Serves-headline, Serves-through, Serves-long, Serves-read, Serves-write, Serves-memory, Serves-none}
use Rattle.rf_base.proofs.ByteLaws.{Appends-nil}

-- a session
pub Ends-session : (asked : Option Asked) (status : Status) (before after : World) → asked ≡ Some Session →
    WhereTold before.left after.left (Serves status before.outside after.outside) → (status ≡ Read → Rose before.read_faults after.read_faults) →
    (status ≡ Write → Rose before.write_faults after.write_faults) → (status ≡ Words → ⊥) → (status ≡ Shelf → ⊥) → Ends asked status before after
Ends-session asked status before after is told read write no_words no_shelf = rw is (by_status status told read write no_words no_shelf)
  where
    served : (s : Status) (refusal : Bool) → s ≡ (if refusal then Refused else Done) →
        WhereTold before.left after.left (Serves s before.outside after.outside) → SessionServed refusal before after
    served s refusal ended serves = record {
      headline = Serves-headline before.outside after.outside before.left after.left s serves refusal ended;
      read_through = Serves-through before.outside after.outside before.left after.left s serves refusal ended;
    }

    by_status : (s : Status) → WhereTold before.left after.left (Serves s before.outside after.outside) → (s ≡ Read → Rose before.read_faults after.read_faults) →
        (s ≡ Write → Rose before.write_faults after.write_faults) → (s ≡ Words → ⊥) → (s ≡ Shelf → ⊥) → SessionEnds s before after
    by_status Done serves read write no_words no_shelf = served Done false refl serves
    by_status Refused serves read write no_words no_shelf = served Refused true refl serves
    by_status Words serves read write no_words no_shelf = no_words refl
    by_status Read serves read write no_words no_shelf =
        record { cause = read refl; replies = Serves-read before.outside after.outside before.left after.left Read serves refl }
    by_status Write serves read write no_words no_shelf =
        record { cause = write refl; replies = Serves-write before.outside after.outside before.left after.left Write serves refl }
    by_status Shelf serves read write no_words no_shelf = no_shelf refl
    by_status Memory serves read write no_words no_shelf = record { replies = Serves-memory before.outside after.outside before.left after.left Memory serves refl }
    by_status Long serves read write no_words no_shelf = record { replies = Serves-long before.outside after.outside before.left after.left Long serves refl }

-- the judgement of a log
Judging-checked : (judge : Judging) (show log : List ℕ) (before after : World) (status : Status) →
    Checks judge status show log before.outside after.outside → (status ≡ Write → Rose before.write_faults after.write_faults) →
    JudgingEnds judge show log status before after
Judging-checked judge show log before after Done checks write = checks
Judging-checked judge show log before after Refused checks write = checks
Judging-checked judge show log before after Words checks write = checks
Judging-checked judge show log before after Read checks write = checks
Judging-checked judge show log before after Write checks write = record { cause = write refl; line = checks }
Judging-checked judge show log before after Shelf checks write = checks
Judging-checked judge show log before after Memory checks write = checks
Judging-checked judge show log before after Long checks write = checks

-- a check
pub Ends-check : (asked : Option Asked) (status : Status) (show log : List ℕ) (before after : World) → asked ≡ Some (Check show log) →
    Checks judged status show log before.outside after.outside → (status ≡ Write → Rose before.write_faults after.write_faults) → Ends asked status before after
Ends-check asked status show log before after is checks write = rw is (Judging-checked judged show log before after status checks write)

-- an audit
pub Ends-audit : (asked : Option Asked) (status : Status) (show log : List ℕ) (before after : World) → asked ≡ Some (Audit show log) →
    Checks audited status show log before.outside after.outside → (status ≡ Write → Rose before.write_faults after.write_faults) → Ends asked status before after
Ends-audit asked status show log before after is checks write = rw is (Judging-checked audited show log before after status checks write)

-- a demonstration
pub Ends-demo : (asked : Option Asked) (status : Status) (seed count : ℕ) (before after : World) → asked ≡ Some (Demo seed count) →
    Demonstrates seed count status before.outside.written after.outside.written → (status ≡ Write → Rose before.write_faults after.write_faults) →
    Ends asked status before after
Ends-demo asked status seed count before after is plays write = rw is (by_status status plays write)
  where
    by_status : (s : Status) → Demonstrates seed count s before.outside.written after.outside.written →
        (s ≡ Write → Rose before.write_faults after.write_faults) → DemoEnds seed count s before after
    by_status Done plays write = record { lines = plays }
    by_status Refused plays write = plays
    by_status Words plays write = plays
    by_status Read plays write = plays
    by_status Write plays write = record { cause = write refl; lines = plays }
    by_status Shelf plays write = plays
    by_status Memory plays write = record { unwritten = plays }
    by_status Long plays write = plays

-- words that ask for nothing
pub Ends-usage : (asked : Option Asked) (status : Status) (before after : World) → asked ≡ None →
    Usage status before.outside.written after.outside.written → (status ≡ Write → Rose before.write_faults after.write_faults) → Ends asked status before after
Ends-usage asked status before after is usage write = rw is (by_status status usage write)
  where
    by_status : (s : Status) → Usage s before.outside.written after.outside.written → (s ≡ Write → Rose before.write_faults after.write_faults) →
        UsageEnds s before after
    by_status Done usage write = usage
    by_status Refused usage write = usage
    by_status Words usage write = record { wrote = usage }
    by_status Read usage write = usage
    by_status Write usage write = record { cause = write refl; wrote = usage }
    by_status Shelf usage write = usage
    by_status Memory usage write = record { wrote = usage }
    by_status Long usage write = usage

-- no memory was found for the words
pub Ends-unread : (asked : Option Asked) (world : World) → Ends asked Memory world world
Ends-unread None world = record { wrote = record { count = 0; within = omega arith; grew = Appends-nil world.outside.written } }
Ends-unread (Some Session) world =
    record { replies = Serves-memory world.outside world.outside world.left world.left Memory (Serves-none world.outside world.left) refl }
Ends-unread (Some (Check show log)) world = Unjudged-none show log world.outside
Ends-unread (Some (Audit show log)) world = Unjudged-none show log world.outside
Ends-unread (Some (Demo seed count)) world = record { unwritten = refl }

-- the headline, of a session that came to its end
pub Ends-headline : (asked : Option Asked) (status : Status) (before after : World) → Ends asked status before after → asked ≡ Some Session →
    (refusal : Bool) → status ≡ (if refusal then Refused else Done) → WhereTold before.left after.left (λ bytes _. Headline before.outside after.outside bytes refusal)
Ends-headline asked status before after ends is refusal ended =
    by_refusal refusal (subst (λ s. SessionEnds s before after) ended (subst (λ (a : Option Asked). Ends a status before after) is ends))
  where
    by_refusal : (refused : Bool) → SessionEnds (if refused then Refused else Done) before after →
        WhereTold before.left after.left (λ bytes _. Headline before.outside after.outside bytes refused)
    by_refusal true served = served.headline
    by_refusal false served = served.headline

-- this status
pub Ends-named : (asked : Option Asked) (status named : Status) (before after : World) → Ends asked status before after → status ≡ named → Ends asked named before after
Ends-named asked status named before after ends is = subst (λ (s : Status). Ends asked s before after) is ends

-- without a fault a log is judged
Judging-well : (judge : Judging) (show log : List ℕ) (before after : World) (status : Status) → JudgingEnds judge show log status before after →
    JudgingUndisturbed judge show log before after → IsDone status
Judging-well judge show log before after Done ends fine = tt
Judging-well judge show log before after Refused ends fine = tt
Judging-well judge show log before after Words ends fine = ends
Judging-well judge show log before after Read ends fine = ends
Judging-well judge show log before after Write ends fine = fine.output ends.cause
Judging-well judge show log before after Shelf ends fine = fine.files ends.name record { end = Err NotFetched; run = ends.run; asks = ends.asks } ends.rose
Judging-well judge show log before after Memory ends fine = tt
Judging-well judge show log before after Long ends fine = ends

-- without a fault the lines of a demonstration are written
Demo-well : (seed count : ℕ) (before after : World) (status : Status) → DemoEnds seed count status before after →
    (Rose before.write_faults after.write_faults → ⊥) → IsDone status
Demo-well seed count before after Done ends fine = tt
Demo-well seed count before after Refused ends fine = tt
Demo-well seed count before after Words ends fine = ends
Demo-well seed count before after Read ends fine = ends
Demo-well seed count before after Write ends fine = fine ends.cause
Demo-well seed count before after Shelf ends fine = ends
Demo-well seed count before after Memory ends fine = tt
Demo-well seed count before after Long ends fine = ends

-- without a fault what is asked is done
pub Ends-well : (asked : Option Asked) (status : Status) (before after : World) → Ends asked status before after → IsUndisturbed asked before after →
    EndsWell asked status
Ends-well None Done before after ends fine = ends
Ends-well None Refused before after ends fine = ends
Ends-well None Words before after ends fine = tt
Ends-well None Read before after ends fine = ends
Ends-well None Write before after ends fine = fine ends.cause
Ends-well None Shelf before after ends fine = ends
Ends-well None Memory before after ends fine = tt
Ends-well None Long before after ends fine = ends
Ends-well (Some Session) Done before after ends fine = tt
Ends-well (Some Session) Refused before after ends fine = tt
Ends-well (Some Session) Words before after ends fine = ends
Ends-well (Some Session) Read before after ends fine = fine.input ends.cause
Ends-well (Some Session) Write before after ends fine = fine.output ends.cause
Ends-well (Some Session) Shelf before after ends fine = ends
Ends-well (Some Session) Memory before after ends fine = tt
Ends-well (Some Session) Long before after ends fine = fits before.outside after.outside before.left after.left ends.replies fine.small
Ends-well (Some (Check show log)) status before after ends fine = Judging-well judged show log before after status ends fine
Ends-well (Some (Audit show log)) status before after ends fine = Judging-well audited show log before after status ends fine
Ends-well (Some (Demo seed count)) status before after ends fine = Demo-well seed count before after status ends fine
