pub mod Flags
pub mod Sweeps
pub mod Ranges
pub mod Bans
pub mod Live
pub mod Rests
