pub mod Removals
pub mod Among
pub mod Watched
