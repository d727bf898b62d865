pub mod NumberLemmas
pub mod PartLemmas
pub mod NameLemmas
pub mod CallerLemmas
