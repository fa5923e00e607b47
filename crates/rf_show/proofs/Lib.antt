pub mod CompanyLaws
pub mod FirstLaws
pub mod KeptLaws
pub mod PlaceLaws
mod AdmittedLemmas
mod CaseLemmas
mod EditedLemmas
mod ListLemmas
mod NameLemmas
mod QueryLemmas
mod RaisedLemmas
mod ReasonLemmas
mod RoomLemmas
mod TogetherLemmas
