mod PourLemmas
pub mod ReadLemmas
pub mod WriteLemmas
