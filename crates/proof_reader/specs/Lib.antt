pub mod Spellings
pub mod ProofLists
