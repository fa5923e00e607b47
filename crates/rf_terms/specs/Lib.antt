pub mod Kinds
pub mod Forms
pub mod Windows
pub mod Laws
