pub mod Kinds
pub mod Ends
pub mod Centred
pub mod Curves
pub mod CentredLaws
pub mod Sizes
pub mod Balls
pub mod EndsLaws
