pub mod ListLemmas
pub mod PlatformLemmas
pub mod KindLemmas
pub mod RouteLemmas
pub mod StepLemmas
pub mod PinLemmas
pub mod ReasonLemmas
pub mod SizeLemmas
