pub mod TraceLaws
mod PieceLemmas
