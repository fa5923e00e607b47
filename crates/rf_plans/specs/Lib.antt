pub mod Agreement
pub mod Clear
