pub mod PlaceDecisions
pub mod EntryDecisions
pub mod RuleDecisions
pub mod SomeLemmas
