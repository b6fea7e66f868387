pub mod Decimal
pub mod Line
pub mod Listing
pub mod Page
pub mod DecimalLaws
pub mod LineLaws
pub mod ListingLaws
pub mod PageLaws
