pub mod BoxLaws
pub mod CaseLaws
pub mod ClosureLaws
pub mod WalkLaws
mod Ahead
mod BelowLemmas
mod Kept
mod ReadingLemmas
mod SetLemmas
mod TextLemmas
mod WordLemmas
