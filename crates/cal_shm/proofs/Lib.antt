pub mod SegmentLemmas
pub mod TypeNameLemmas
pub mod WrittenBytesLemmas
