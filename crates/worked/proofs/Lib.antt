pub mod CardLaws
pub mod ExampleLaws
pub mod MappingLaws
