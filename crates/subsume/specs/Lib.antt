pub mod Subsuming
pub mod Placing
pub mod Candidates
pub mod Tries
pub mod Links
pub mod Features
pub mod Held
pub mod Filed
