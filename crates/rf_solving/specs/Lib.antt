pub mod Solving
pub mod LogWriter
pub mod Placing
