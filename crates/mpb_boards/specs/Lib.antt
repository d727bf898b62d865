pub mod Boot
pub mod Lines
