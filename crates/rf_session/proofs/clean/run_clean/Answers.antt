use Rattle.std.proofs.Common.{refl}
use Rattle.rf_session.proofs.CleanLaws.{HeadlineClean-counts, never_rose, rose_read, rose_shelf, rose_write, undisturbed}
use Rattle.rf_session.proofs.clean.run_clean.Goals as goal

pub returns-clause-read : goal.returns-clause-read
returns-clause-read c = λ is. never_rose (rose_read _ _ _ (c.run.ensures.read is))

pub returns-clause-write : goal.returns-clause-write
returns-clause-write c = λ is. never_rose (rose_write _ _ _ (c.run.ensures.write is))

pub returns-clause-shelf : goal.returns-clause-shelf
returns-clause-shelf c = λ is. never_rose (rose_shelf _ _ _ (c.run.ensures.shelf is)).1

pub returns-clause-done : goal.returns-clause-done
returns-clause-done c = λ small. c.run.ensures.complete (undisturbed _ _ _ never_rose never_rose (λ name. never_rose) small)

pub returns-clause-fetched : goal.returns-clause-fetched
returns-clause-fetched c = λ is refusal ended.
    HeadlineClean-counts _ _ _ refusal (λ name. refl) (λ name. refl) (c.run.ensures.headline is refusal ended)
