pub mod Texts
pub mod Lent
pub mod Files
pub mod Given
