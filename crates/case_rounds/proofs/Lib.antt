pub mod Places
pub mod Rows
pub mod Lines
pub mod Batches
pub mod Found
pub mod Owners
pub mod Shifts
pub mod Growth
