pub mod ByteLists
pub mod PlatformValues
pub mod MadtJudgment
pub mod PirJudgment
pub mod DifferencesThere
pub mod MadtBytes
pub mod PirBytes
