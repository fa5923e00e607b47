pub mod Couplings
pub mod Filled
pub mod Masks
pub mod Slices
pub mod Timed
pub mod Times
pub mod ZoneNames
pub mod Zones
