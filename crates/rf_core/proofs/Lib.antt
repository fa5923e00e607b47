-- What the proofs of this crate share.

mod AnswerLemmas
mod EnoughLemmas
mod LockLists
mod SparingLemmas
mod UnlockLemmas
