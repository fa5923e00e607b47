pub mod CheckLaws
mod BoxLemmas
mod CarrierLemmas
mod EarlierLemmas
mod RuleLemmas
mod TestLemmas
mod WalkLemmas
