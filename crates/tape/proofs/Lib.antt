pub mod Fills
pub mod Turns
pub mod BlockLaws
pub mod StoreLaws
