pub mod Assumptions
pub mod OrderLaws
pub mod SetLaws
