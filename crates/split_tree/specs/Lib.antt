pub mod Caches
pub mod State
pub mod Fields
