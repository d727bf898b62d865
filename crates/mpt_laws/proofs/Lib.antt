pub mod PlaceLemmas
pub mod EntryJudgment
pub mod Decisions
pub mod ExampleLemmas
pub mod FaultExamples
pub mod RevisionLaws
pub mod Judgment
pub mod PutLemmas
