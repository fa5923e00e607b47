pub mod Brackets
pub mod Answers
pub mod Widened
pub mod Texts
pub mod Halving
pub mod Enough
