pub mod LocalLemmas
pub mod PinLaws
pub mod LogicalLemmas
pub mod TargetLemmas
pub mod BoardLaws
