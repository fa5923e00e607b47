pub mod CaseLaws
mod MemberLemmas
mod SetLemmas
mod TogetherLemmas
