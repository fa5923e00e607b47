pub mod BitLaws
pub mod MaskLaws
pub mod PairLaws
pub mod SliceLaws
pub mod StandLaws
mod FilledLemmas
mod MinuteLemmas
mod TimesLemmas
mod ZonesLemmas
