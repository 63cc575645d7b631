pub mod PathLemmas
pub mod FilePathLemmas
pub mod TypeHashLemmas
pub mod NamePathLemmas
