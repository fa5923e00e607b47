pub mod Audited
pub mod Follow
pub mod Laws
pub mod Left
pub mod Tables
pub mod Looks
