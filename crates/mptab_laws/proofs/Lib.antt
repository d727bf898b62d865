pub mod BoardRows
pub mod DrillLaws
pub mod FirmwareRows
pub mod FitLaws
pub mod ReplayLaws
pub mod Rows
pub mod WalkLaws
