pub mod Turns
pub mod Publishing
pub mod Waiting
pub mod Sequence
pub mod Desks
pub mod Rounds
pub mod Computed
