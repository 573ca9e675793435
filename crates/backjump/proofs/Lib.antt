pub mod Deaths
pub mod Pairs
pub mod Cases
pub mod Steps
pub mod Root
pub mod Follow
