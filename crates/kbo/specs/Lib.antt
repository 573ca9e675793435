pub mod Comparisons
pub mod Views
pub mod Tallies
pub mod Measures
pub mod Stability
