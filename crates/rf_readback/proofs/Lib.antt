pub mod OperandLaws
pub mod WordLaws
mod HintsBack
mod LinesBack
mod LogBack
mod NamesBack
