pub mod ListLemmas
pub mod TurnLemmas
pub mod RobinLemmas
pub mod AdvanceLemmas
