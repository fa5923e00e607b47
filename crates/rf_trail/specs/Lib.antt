pub mod Trace
pub mod Pieces
