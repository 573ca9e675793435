pub mod Best
pub mod Oldest
pub mod Lightest
pub mod Holding
