mod ActiveLemmas
mod ListLemmas
