pub mod Renumbered
pub mod Moved
pub mod Parents
pub mod MarkLemmas
pub mod Counts
pub mod Extracts
