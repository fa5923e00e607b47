mod FieldLemmas
mod HarmLemmas
mod LawLemmas
mod ListLemmas
mod RunLemmas
mod SearchLemmas
mod SiteLemmas
mod SpareLemmas
