pub mod RouteLines
pub mod FindingLines
pub mod Elcr
