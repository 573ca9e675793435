pub mod Lengths
pub mod Skip
pub mod Texts
mod Scans
