pub mod SweepLaws
mod RemovalLemmas
mod WatchLemmas
