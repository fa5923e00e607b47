pub mod FormLaws
pub mod KindLaws
mod WindowLemmas
