pub mod Cards
pub mod Example
pub mod LoneOrder
pub mod Mapping
