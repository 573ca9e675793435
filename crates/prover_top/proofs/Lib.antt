pub mod Pieces
pub mod WordLemmas
pub mod Closed
pub mod Ends
pub mod Contradicted
pub mod Causes
pub mod Clauses
