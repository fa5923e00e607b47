pub mod BoolLaws
pub mod ByteLaws
pub mod DecimalLaws
pub mod InputLaws
pub mod ListLaws
pub mod NameLaws
pub mod NumberLaws
pub mod OptionLaws
pub mod ScriptLaws
pub mod TextLaws
pub mod ToldLaws
pub mod WordLaws
mod FileNameLemmas
mod PaddedLemmas
mod Reading
