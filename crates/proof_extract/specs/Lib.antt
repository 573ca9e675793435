pub mod Extracting
pub mod Marking
pub mod Contradictions
