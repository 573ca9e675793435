pub mod Lines
pub mod Hidden
pub mod Folding
pub mod Matched
pub mod Rewriting
pub mod Chains
