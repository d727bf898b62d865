pub mod MapLemmas
pub mod OrderLemmas
pub mod PieceLemmas
pub mod SizeLemmas
pub mod BlockLemmas
pub mod OwnLemmas
