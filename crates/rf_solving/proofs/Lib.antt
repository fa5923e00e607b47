pub mod LinesLaws
mod Endings
mod LogLemmas
mod PlacingLaws
