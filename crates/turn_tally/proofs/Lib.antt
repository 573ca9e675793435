pub mod Counting
pub mod Greatest
pub mod Merging
pub mod Rows
