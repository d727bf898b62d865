pub mod FaultLines
pub mod LineDifferences
pub mod PinLines
