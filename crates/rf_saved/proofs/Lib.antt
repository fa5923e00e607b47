mod Accepted
mod Carried
mod Honest
mod ListLemmas
mod Trimmed
