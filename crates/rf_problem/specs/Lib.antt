pub mod Problem
pub mod Kept
