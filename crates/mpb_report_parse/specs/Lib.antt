pub mod Reports
pub mod Languages
