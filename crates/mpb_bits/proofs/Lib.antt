pub mod SetLemmas
pub mod BitLemmas
pub mod WordLemmas
pub mod CountLemmas
