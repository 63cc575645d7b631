pub mod Calls
pub mod Configuration
pub mod Lends
pub mod Plan
pub mod Refusals
pub mod Segment
pub mod TypeName
pub mod WrittenLemmas
