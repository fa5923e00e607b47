-- Which locks block a plan.
pub mod Blocking
pub mod Answers
pub mod Enough
pub mod Sparing
pub mod Unlocking
