pub mod Boxes
pub mod Lines
pub mod Ranges
pub mod Carriers
