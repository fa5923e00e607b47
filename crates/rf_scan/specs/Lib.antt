pub mod Hot
pub mod Scan
