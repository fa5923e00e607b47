pub mod Unchanged
pub mod Tables
