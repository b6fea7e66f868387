pub mod Consequences
pub mod CappingLaws
pub mod CappingCalls
